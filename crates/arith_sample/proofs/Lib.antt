-- Lemmas that several proofs share.
pub mod Sums16
pub mod Joins
