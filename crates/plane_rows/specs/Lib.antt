-- Rows of a block straight from the plane, and their laws.
pub mod Rows
pub mod LaneLaws
pub mod StoreLaws
