-- What a list of unit pairs owes and applying with it (Applying); the two kinds keep the laws (KindLaws); how many units a picture has, and error codes (PairLaws).
pub mod Applying
pub mod KindLaws
pub mod PairLaws
