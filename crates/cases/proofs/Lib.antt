-- What the definitions compute: histories and witnesses, as the Rust gave them.
pub mod Trees
pub mod Witnesses
