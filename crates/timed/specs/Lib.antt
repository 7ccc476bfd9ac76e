-- Tables of keys and values, and what a call for each row leaves.
pub mod Rows
