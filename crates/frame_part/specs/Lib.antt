-- Laws of the visible part of a block, and of its distance.
pub mod PartLaws
pub mod KindLaws
