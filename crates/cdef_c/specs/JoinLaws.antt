-- An outcome as one equation of records, and the equations of its parts.
use Rattle.std.specs.Prelude.{◌≡◌, List, ℕ, ℤ}
use Rattle.std.proofs.Common.{sym, ap}
use Rattle.cdef_spec.specs.Answers.{Result, Nothing}
use Rattle.cdef_spec.specs.FrameCalls.{DirectionPassOutcome, TryingOutcome, MeasuringOutcome, ApplyingOutcome}

pub pass-parts : (o : DirectionPassOutcome) (a : Result Nothing) (p : List ℕ) (q : List ℕ) → o ≡ record { answer = a; dirs = p; vars = q } → (a ≡ o.answer) × ((p ≡ o.dirs) × (q ≡ o.vars))
pass-parts o a p q e = (ap (λ (x : DirectionPassOutcome). x.answer) (sym e), (ap (λ (x : DirectionPassOutcome). x.dirs) (sym e), ap (λ (x : DirectionPassOutcome). x.vars) (sym e)))

pub trying-parts : (o : TryingOutcome) (a : Result Nothing) (p : List ℤ) → o ≡ record { answer = a; totals = p } → (a ≡ o.answer) × (p ≡ o.totals)
trying-parts o a p e = (ap (λ (x : TryingOutcome). x.answer) (sym e), ap (λ (x : TryingOutcome). x.totals) (sym e))

pub measuring-parts : (o : MeasuringOutcome) (a : Result Nothing) (p : List ℤ) (q : List ℕ) → o ≡ record { answer = a; totals = p; scratch = q } → (a ≡ o.answer) × ((p ≡ o.totals) × (q ≡ o.scratch))
measuring-parts o a p q e = (ap (λ (x : MeasuringOutcome). x.answer) (sym e), (ap (λ (x : MeasuringOutcome). x.totals) (sym e), ap (λ (x : MeasuringOutcome). x.scratch) (sym e)))

pub applying-parts : (o : ApplyingOutcome) (a : Result Nothing) (p : List ℕ) → o ≡ record { answer = a; plane = p } → (a ≡ o.answer) × (p ≡ o.plane)
applying-parts o a p e = (ap (λ (x : ApplyingOutcome). x.answer) (sym e), ap (λ (x : ApplyingOutcome). x.plane) (sym e))
