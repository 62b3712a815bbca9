-- The distances that trying adds up, and their laws.
pub mod Totals
pub mod SameLaws
