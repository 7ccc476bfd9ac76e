-- Where each bit of a store lies.
pub mod Bits
pub mod Limits
pub mod Layout
pub mod Setters
