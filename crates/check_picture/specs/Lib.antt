-- The questions in the parts that the code checks them in, and their laws.
pub mod Parts
pub mod PartLaws
pub mod RefusalLaws
pub mod ShapeLaws
pub mod StepLaws
