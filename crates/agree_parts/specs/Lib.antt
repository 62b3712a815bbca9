-- Definitions (Parts), and laws of them (PartLaws).
pub mod Parts
pub mod PartLaws
