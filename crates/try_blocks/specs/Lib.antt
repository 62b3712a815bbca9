-- The trial blocks of a block, and their laws.
pub mod TrialBlocks
pub mod TrialBlockLaws
