-- What applying leaves block by block, and its laws.
pub mod Apply
pub mod ApplyLaws
