-- Blocks two samples or more inside a plane.
pub mod Inner
