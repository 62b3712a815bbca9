-- The costs of eight blocks in lanes.
pub mod Costs
-- Their laws: they equal the standard's, and fit.
pub mod CostsLaws
