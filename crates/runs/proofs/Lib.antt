-- The laws of runs of bits and of bytes.
pub mod Recut
pub mod Padding
pub mod Runs
pub mod Testing
