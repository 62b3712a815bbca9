-- What measuring adds up.
pub mod Measure
-- Its laws: the rows of a block.
pub mod RowLaws
-- A block in the scratch.
pub mod FilledLaws
-- Its distance.
pub mod CodeLaws
pub mod DistanceLaws
-- The totals.
pub mod AddLaws
