-- What is proved of the judgement.
pub mod Deciding
pub mod Testing
pub mod Order
pub mod Unique
pub mod Once
pub mod Chaining
pub mod Walking
pub mod Judging
