-- The parts of a plane's blocks.
pub mod Frame
-- What a picture that passed the checks satisfies.
pub mod Shape
pub mod Checked
-- Laws of its blocks and planes.
pub mod FrameLaws
pub mod ShapeLaws
pub mod CountedLaws
pub mod SampledLaws
pub mod UsableLaws
