-- How many numbers a line has.
pub mod Lines
