-- The constant words follow their rule.
pub mod Table
pub mod Roots
