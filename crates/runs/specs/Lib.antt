-- Runs of bits and of bytes.
pub mod Bits
pub mod Runs
