-- Marks that count as values, and the trial of a block.
pub mod Marks
pub mod Trial
-- Laws: what the kernel stores from strips is the trial of the window.
pub mod StripLaws
pub mod MarkLaws
pub mod TrialLaws
