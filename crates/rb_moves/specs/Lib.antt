-- The moves of the Rust's delete.
pub mod Moves
