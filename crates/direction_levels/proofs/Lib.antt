-- Lemmas that several proofs share.
pub mod Less128
pub mod Places
