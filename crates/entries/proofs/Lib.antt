-- The entry in a slot: what its digests are.
pub mod Laws
