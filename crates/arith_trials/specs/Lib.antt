-- Laws of the trial numbers.
pub mod TrialLaws
