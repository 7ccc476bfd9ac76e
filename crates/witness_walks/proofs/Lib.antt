-- The walks are the Rust's; their kinds are known beforehand; the bytes are the written form of what they show.
pub mod Joining
pub mod Reached
pub mod Writing
pub mod Walking
pub mod Laying
pub mod Never
