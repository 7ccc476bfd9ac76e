-- Lemmas that several proofs share.
pub mod Blocks
pub mod Padding
pub mod Rows
pub mod Absorbing
pub mod Length
