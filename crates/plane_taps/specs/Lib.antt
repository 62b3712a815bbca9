-- The taps of a plane without marks, and their laws.
pub mod Steps
pub mod StepLaws
pub mod Reach
pub mod ReachLaws
pub mod Plain
pub mod PlainLaws
pub mod Runs
pub mod RunLaws
