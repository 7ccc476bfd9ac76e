-- The steps of the functions of crate text, and why words found one by one are the words of the line.
pub mod Splitting
pub mod Lines
pub mod Numbers
pub mod Fews
pub mod Pairs
pub mod Names
