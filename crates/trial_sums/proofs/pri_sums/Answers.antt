-- `trial_sums::pri_sums` meets its contract.
use Rattle.std.proofs.Common.{ap, ◌∙◌, ℕ, ◌+◌}
use Rattle.arith_sample.specs.Upto.{upto}
use Rattle.filter_rows.specs.declared.Strength.{Strength}
use Rattle.trial_sums.specs.Raw.{pri_raw}
use Rattle.trial_sums.specs.RawLaws.{pri-idle}
use Rattle.trial_sums.proofs.pri_sums.Goals as goal
use Rattle.trial_sums.proofs.pri_sums.Goals.{then-f-eq0, else-f-eq0, then-g-h, else-g-h}

pub returns : goal.returns
unfolding upto
returns c = let a = c.args in record {
  p1-is = elim c.if-f-eq0.branch [
    | then-f-eq0 w ↦ w.first-is ∙ pri-idle a.t.now a.at a.o a.f w.if-f-eq0.true
    | else-f-eq0 w ↦ w.first-is ∙ w.pri_one-first.ensures
  ];
  p2-is = c.pri_one-second.ensures;
  p3-is = elim c.if-g-h.branch [
    | then-g-h w ↦ w.third-is ∙ c.pri_one-second.ensures ∙ ap (λ (z : Strength). upto (λ (j : ℕ). pri_raw a.t.now (a.at + j) a.o z) 16) (c.requires.5 w.if-g-h.true)
    | else-g-h w ↦ w.third-is ∙ w.pri_one-third.ensures
  ];
}
