-- Sixteen samples of the twelve trial blocks.
pub mod Sixteen
pub mod SixteenLaws
