-- What filtering a block stores, and its laws.
pub mod Stored
pub mod StoredLaws
