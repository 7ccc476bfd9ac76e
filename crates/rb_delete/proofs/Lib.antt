-- What delete on a tree asks of its calls, and what it leaves.
pub mod Inverse
pub mod Cutting
pub mod Going
pub mod Deleting
