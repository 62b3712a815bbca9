-- The weighted distances of twelve trial blocks, and their laws.
pub mod Whole
pub mod WholeLaws
