-- The contracts of insert and modify on a tree in slots.
pub mod Inserts
