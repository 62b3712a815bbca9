-- The arithmetic of samples in bytes.
pub mod Arithmetic
