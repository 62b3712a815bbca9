-- What a frame call leaves, from its checks.
pub mod CallLaws
