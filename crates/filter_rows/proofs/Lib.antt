-- Lemmas that several proofs share.
pub mod Bounds
