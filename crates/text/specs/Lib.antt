-- What the text of the programs means.
pub mod Words
pub mod Hex
