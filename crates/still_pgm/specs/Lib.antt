pub mod Header
pub mod Sizes
pub mod Faults
pub mod Planes
pub mod HeaderLaws
pub mod SizesLaws
pub mod PlanesLaws
pub mod RoundLaws
