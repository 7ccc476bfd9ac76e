-- Searches over the slots of a store.
pub mod Search
