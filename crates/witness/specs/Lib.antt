-- The witnesses of a store, written.
pub mod Putting
pub mod Saving
