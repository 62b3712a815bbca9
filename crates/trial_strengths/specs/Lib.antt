-- The filter parameters of the twelve trials, and their laws.
pub mod Strengths
pub mod StrengthLaws
