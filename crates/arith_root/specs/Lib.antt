-- Terms of the square root's and the truncation's contracts, and the laws of both.
pub mod RootWords
pub mod NewtonLaws
pub mod PatternLaws
pub mod WideLaws
pub mod RootLaws
pub mod FloatLaws
pub mod TruncateLaws
pub mod UnitLaws
pub mod NearestLaws
