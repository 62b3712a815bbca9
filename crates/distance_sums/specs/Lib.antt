-- Blocks in the code's form, and the laws of their sums.
pub mod SumLaws
pub mod Blocks
pub mod BlockLaws
pub mod ColumnLaws
