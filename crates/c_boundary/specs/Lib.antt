-- What a C caller sees of the public calls.
pub mod Lent
