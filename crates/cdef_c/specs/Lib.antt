-- What a C entry leaves in `out`, and outcomes part by part.
pub mod Values
pub mod JoinLaws
