-- The examples hold.
pub mod Table
pub mod Logs
pub mod Difference
