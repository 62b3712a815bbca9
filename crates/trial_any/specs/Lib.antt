-- The trial of a block of any sides: definitions, then their laws.
pub mod Any
pub mod RowLaws
pub mod AnyLaws
