-- What the results of the tests say.
pub mod SideLaws
