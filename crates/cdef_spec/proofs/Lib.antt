-- Laws that the must-fail edits of the definitions break, and the proof of the agreement theorem (RULES, Agreement).
pub mod PlaceLaws
pub mod FilterLaws
pub mod TapLaws
pub mod ClipLaws
pub mod TrialLaws
pub mod LocalLaws
pub mod PictureLaws
pub mod PairLaws
pub mod AppliedLaws
pub mod PlaneLaws
pub mod TrialCallLaws
pub mod OutcomeLaws
pub mod Agreement
