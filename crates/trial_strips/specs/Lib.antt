-- The window of a block as strips, and their laws.
pub mod Strips
pub mod FillLaws
