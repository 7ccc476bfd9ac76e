-- The contracts of delete on a tree in slots.
pub mod Deletes
