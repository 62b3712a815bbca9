-- A row of a block, as it is stored.
pub mod Row
