-- The code's form of the best cost, and its laws.
pub mod Best
pub mod BestLaws
