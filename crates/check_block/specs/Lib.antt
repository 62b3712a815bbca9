-- The questions in the parts that the code checks them in, and their laws.
pub mod Parts
pub mod PartLaws
pub mod WindowLaws
pub mod DirectionLaws
pub mod DistanceLaws
pub mod TrialParts
pub mod TrialPartLaws
pub mod CornerLaws
