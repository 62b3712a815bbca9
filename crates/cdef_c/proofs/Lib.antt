-- Lemmas that several proofs share.
pub mod Left
pub mod Mapped
