-- What the checks make for a core (Made), and its laws (MadeLaws).
pub mod Made
pub mod MadeLaws
