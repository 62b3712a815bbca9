-- What applying leaves of one block, and its laws.
pub mod Blocks
pub mod BlockLaws
