-- The code's form of the costs, and its laws.
pub mod Costs
pub mod CostsLaws
