-- Laws of whole lists.
pub mod EachLaws
pub mod Quarters
pub mod ListLaws
