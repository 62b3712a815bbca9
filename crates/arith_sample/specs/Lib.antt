-- One tap and the rounding and clipping of a sample, and their laws.
pub mod Sample
pub mod SampleLaws
pub mod HeldLaws
pub mod Upto
pub mod Bounds
pub mod BoundLaws
pub mod FromFn
