-- The code's form of the line sums, and its laws.
pub mod Lines
pub mod LinesLaws
