-- Sixteen samples at once in bytes, and their laws.
pub mod Byte
pub mod ByteBounds
pub mod ByteLaws
pub mod FinishLaws
pub mod Eights
pub mod EightLaws
