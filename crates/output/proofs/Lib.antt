-- Bytes put one after the other, and the room that they leave.
pub mod Putting
