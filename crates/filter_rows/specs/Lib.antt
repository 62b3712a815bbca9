-- The definitions of a row, and their laws.
pub mod Place
pub mod Sums
pub mod SumsLaws
pub mod Pairs
pub mod PairsLaws
