-- What is proved of the calls that concern a store as a whole.
pub mod Fresh
pub mod Answering
