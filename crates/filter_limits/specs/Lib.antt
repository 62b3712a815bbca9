-- The limits of a sample, and their laws.
pub mod Limits
pub mod LimitsLaws
