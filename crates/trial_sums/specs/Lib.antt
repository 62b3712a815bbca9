-- Sums of sixteen samples, and their laws.
pub mod Raw
pub mod RawLaws
