-- The window, what its functions receive, and its laws.
pub mod Window
pub mod Spans
pub mod WindowLaws
pub mod FilledLaws
