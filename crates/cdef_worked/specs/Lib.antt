-- The lines marked P of RULES, Worked lines: one list, one claim over it.
pub mod Worked
