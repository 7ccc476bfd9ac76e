-- What the code says of a record and of a log, and what its steps leave of a store.
pub mod Records
pub mod Runs
