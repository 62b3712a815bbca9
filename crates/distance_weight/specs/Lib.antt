-- Terms of the weighted distance's contracts, and their laws.
pub mod Weighing
pub mod SequenceLaws
pub mod WeighingLaws
