-- Laws of the weighted distance of blocks, and of blocks of a plane.
pub mod WeightedLaws
pub mod PlaneLaws
