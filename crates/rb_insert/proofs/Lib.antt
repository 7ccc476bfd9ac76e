-- What insert and modify on a tree ask of their calls, and what they leave.
pub mod Inserting
pub mod Putting
pub mod Modifying
