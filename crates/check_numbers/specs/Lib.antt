-- What follows where the checks of a call on single numbers pass.
pub mod NumberLaws
