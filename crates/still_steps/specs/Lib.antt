pub mod Damping
pub mod DampingLaws
pub mod TotalLaws
