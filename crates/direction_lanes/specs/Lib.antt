-- The samples of eight blocks side by side.
pub mod Lanes
-- Laws of their order and magnitude.
pub mod LanesLaws
