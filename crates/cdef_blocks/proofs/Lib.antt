-- Lemmas that several proofs share.
pub mod Told
pub mod Passed
