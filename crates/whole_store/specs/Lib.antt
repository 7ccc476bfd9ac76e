-- The calls that concern a store as a whole.
pub mod Fresh
