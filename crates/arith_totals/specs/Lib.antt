-- Laws of the frame loops' folds: their iterations, and how large a unit's total may become.
pub mod FoldLaws
pub mod TotalBounds
-- A list set to zero.
pub mod ZeroLaws
-- A distance added to a total.
pub mod Small
pub mod AddLaws
-- Twelve distances added to totals.
pub mod Turns
pub mod TurnLaws
