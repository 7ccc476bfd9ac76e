-- The entry in a slot.
pub mod Digests
