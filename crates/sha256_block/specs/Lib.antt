-- FIPS 180-4, SHA-256: what one block does to the hash value.
pub mod Rounds
pub mod Ring
