-- Laws of eight blocks side by side.
pub mod EightLaws
