-- The numbers that a call may answer, and what it answers beside a number.
pub mod Numbers
pub mod Answers
