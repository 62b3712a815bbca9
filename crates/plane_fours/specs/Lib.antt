-- 4 by 4 squares of a block straight from the plane, and their laws.
pub mod Fours
pub mod FourReachLaws
pub mod RunLaws
pub mod FourLaws
pub mod FourStoreLaws
