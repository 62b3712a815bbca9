-- What follows, as facts, where all checks of the direction pass pass.
pub mod PassLaws
