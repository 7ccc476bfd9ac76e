-- The laws of the CBOR form, and the lemmas that belong to no one function.
pub mod Examples
pub mod Opens
pub mod Laws
pub mod Promises
pub mod Reading
pub mod Sizes
pub mod Judging
pub mod Records
pub mod Answering
