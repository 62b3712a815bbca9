-- Laws of the trial of a block.
pub mod PackedLaws
pub mod SampleLaws
pub mod TableLaws
