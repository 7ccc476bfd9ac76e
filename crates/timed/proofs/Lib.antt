-- What a row's call leaves, from what the functions for sound stores ensure.
pub mod Rowing
