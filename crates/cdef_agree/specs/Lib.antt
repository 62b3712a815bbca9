-- The three calls one after the other (Agree), the agreement of their totals (AgreeLaws, ByLaws), and what each call's answer leaves (WayLaws).
pub mod Agree
pub mod AgreeLaws
pub mod ByLaws
pub mod WayLaws
