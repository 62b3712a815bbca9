-- Lemmas that several proofs share.
mod LineLaws
