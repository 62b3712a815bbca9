-- What the block filter stores, and its laws.
pub mod Store
pub mod StoreLaws
pub mod TableLaws
pub mod TakenLaws
