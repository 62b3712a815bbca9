-- The samples of a block as the code stores them, and their laws.
pub mod Levels
pub mod LevelLaws
