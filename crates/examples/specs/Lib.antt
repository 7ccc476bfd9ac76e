-- The starred examples of document 01, examples of replay, and the difference of two releases.
pub mod Examples
pub mod Logs
pub mod Difference
