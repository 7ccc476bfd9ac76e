-- Hash trees: what they are, their digests, their written form, and what rebuilding a digest from bytes answers.
pub mod HashTree
pub mod Written
pub mod Record
pub mod Parse
pub mod Form
pub mod Whole
pub mod Steps
pub mod Deep
pub mod Prune
pub mod Examples
