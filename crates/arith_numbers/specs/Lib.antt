-- Blocks whose samples fill runs of sixteen, and their laws.
pub mod Packed
pub mod PackedLaws
