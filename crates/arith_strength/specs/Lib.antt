-- Laws of strengths.
pub mod StrengthLaws
