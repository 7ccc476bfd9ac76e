-- The walk through two stores: its cursors, its steps, and what the two loops make of them.
pub mod Standing
pub mod Stepping
pub mod Saving
