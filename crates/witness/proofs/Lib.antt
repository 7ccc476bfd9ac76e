-- The writer's bytes, one after the other.
pub mod Lengths
pub mod Stepping
pub mod Saving
