-- Hash trees in CBOR, as the Interface Specification writes them.
pub mod Cbor
pub mod Answer
pub mod Walks
pub mod Examples
