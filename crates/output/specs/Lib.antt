-- What writes to an output.
pub mod Putting
