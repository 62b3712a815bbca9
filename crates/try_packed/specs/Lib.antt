-- A block's samples row after row, and their laws.
pub mod Rows
pub mod RowLaws
