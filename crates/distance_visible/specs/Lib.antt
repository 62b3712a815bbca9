-- The distance of the visible part of a block.
pub mod Cut
-- Its laws.
pub mod CutLaws
