-- Terms of the contracts.
pub mod Trying
-- Laws of the trial blocks' distances, and of the totals.
pub mod DistanceLaws
pub mod TryLaws
pub mod InputLaws
