-- From line sums to the direction and the variance: definitions and laws.
pub mod Found
pub mod FoundLaws
pub mod HandedOut
