-- Runs of sixteen samples of a trial block, and their laws.
pub mod Runs
pub mod RunLaws
pub mod JoinLaws
