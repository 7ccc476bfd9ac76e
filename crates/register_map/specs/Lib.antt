-- The answers of the public calls.
pub mod Answers
