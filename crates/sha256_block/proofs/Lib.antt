-- What the proofs of the rounds share.
pub mod Ring
