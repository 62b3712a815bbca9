pub mod Lists
pub mod ListsLaws
