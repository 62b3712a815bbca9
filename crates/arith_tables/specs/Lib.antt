-- A statement that a reader must trust (Divisor), and its proof (DivisorLaws).
pub mod Divisor
pub mod DivisorLaws
