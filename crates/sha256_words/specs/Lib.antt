-- FIPS 180-4, SHA-256: words, and the constant words with their rule.
pub mod Words
pub mod Constants
pub mod Roots
