-- The walks of the Rust over the slots of a store: what each does at a node, and the bytes of what it shows.
pub mod Arms
pub mod Records
pub mod Walked
pub mod InStore
pub mod Bounds
pub mod Met
