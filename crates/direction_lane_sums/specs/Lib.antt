-- The line sums of eight blocks in lanes.
pub mod Lines
-- Their laws: forms and magnitudes, and that they are the standard's.
pub mod LinesLaws
pub mod PartialLaws
