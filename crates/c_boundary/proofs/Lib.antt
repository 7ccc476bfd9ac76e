-- What is left of the things that a call was lent.
pub mod Putting
