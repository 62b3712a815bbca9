-- Blocks inside the plane, and their laws.
pub mod Inside
pub mod PlaneLaws
pub mod RowLaws
