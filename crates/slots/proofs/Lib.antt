-- The laws of the layout, from rooms up to whole stores.
pub mod Rooms
pub mod Equal
pub mod Lenses
pub mod Writing
pub mod Whole
pub mod Coding
pub mod Copying
