-- What the tests of a slot decide.
pub mod Testing
