-- A definition and a statement that a reader must trust (Choice), and the proof of the statement (ChoiceLaws).
pub mod Choice
pub mod ChoiceLaws
