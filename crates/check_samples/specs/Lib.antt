-- The bits of the samples examined, and their laws.
pub mod Looked
pub mod LookedLaws
