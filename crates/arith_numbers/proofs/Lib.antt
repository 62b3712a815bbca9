-- Lemmas that several proofs share.
pub mod Squares
