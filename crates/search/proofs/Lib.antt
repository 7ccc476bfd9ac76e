-- Trees that lie in a store, and the way down in them.
pub mod Lying
pub mod Descent
pub mod Searches
pub mod Finding
