-- DEMAND 3 (RULES, Agreement), as a statement over the outcomes of the three calls. Definitions only; Agreement proves it.
-- Trying and applying share a picture (plane kind with its layout, depth, sizes, skip flags, directions, variances), a snapshot and the figure in force, however each came by it.
-- Each unit's pair is any of the twelve. Applying reads the snapshot and writes into a copy of it. Measuring, with pair 0, 0, gets what applying left, and the same original, depth, layout, skip flags and visible size;
-- its directions, variances and damping are its own.
use Rattle.std.specs.Prelude.{◌≡◌, Bool, true, ◌&&◌, List, ℕ, ◌+◌, ◌*◌, ◌<◌, eqb, ℤ, pos, get_or, length, Option}
use Rattle.cdef_spec.specs.declared.SignalledDamping.{SignalledDamping}
use Rattle.cdef_spec.specs.declared.UnitPair.{UnitPair}
use Rattle.cdef_spec.specs.declared.Visible.{Visible}
use Rattle.cdef_spec.specs.Document01.{in_force, trial_number, is_trial_pair}
use Rattle.cdef_spec.specs.Picture.{PlaneKind, luma, chroma, Picture, units, pair_at}
use Rattle.cdef_spec.specs.Answers.{taken, nothing}
use Rattle.cdef_spec.specs.Questions.{picture_listed, picture_taken}
use Rattle.cdef_spec.specs.FrameCalls.{TryingOutcome, trying_outcome, ApplyingOutcome, applying_outcome, scratch_length, MeasuringOutcome, measuring_outcome}

-- the pair 0, 0: measuring compares the plane as it is
abbrev pub off : UnitPair
off = record { primary = 0; secondary = 0 }

-- the same picture with other directions and, in luma, other variances: as measuring may have it
unfoldable pub other_kind : PlaneKind → List ℕ → PlaneKind
other_kind (luma vars) vars' = luma vars'
other_kind (chroma sx sy) vars' = chroma sx sy

unfoldable pub with_directions : Picture → List ℕ → List ℕ → Picture
with_directions q dirs vars = record { kind = other_kind q.kind vars; depth = q.depth; width = q.width; height = q.height; skip = q.skip; dirs = dirs }

-- the two lists of totals agree: each has its length, and each unit's measured total is its tried total at its pair's trial number
pub record Agrees (q : Picture) (pairs : List UnitPair) (tried measured : List ℤ) : Type 0 where
  pub tried-length : length tried ≡ 12 * units q
  pub measured-length : length measured ≡ units q
  pub unit-by-unit : (u : ℕ) → u < units q → get_or measured u (pos 0) ≡ get_or tried (12 * u + trial_number (pair_at pairs u)) (pos 0)

-- what measuring is given of its own passes questions 7 and 8: the lengths of its totals and scratch, its directions, variances and the figure that its damping puts in force.
-- (The skip flags, which it shares with trying, are tested here again; trying's acceptance implies that they pass.)
unfoldable pub own_input_passes : Picture → Option SignalledDamping → List ℤ → List ℕ → Bool
own_input_passes q damping measured scratch = (picture_listed q && (eqb (length measured) (units q) && eqb (length scratch) (scratch_length q))) && picture_taken q (in_force damping)

-- for every input that trying and applying accept, and whatever directions, variances, damping, totals and scratch of its own measuring is given that pass questions 7 and 8:
-- measuring accepts its input, and its totals agree with the tried ones
abbrev pub Demand3 : Type 0
Demand3 =
    (q : Picture) (visible : Visible) (snapshot original : List ℕ) (pairs : List UnitPair)
    (damping_tried damping_applied damping_measured : Option SignalledDamping) (totals measured : List ℤ) (dirs vars scratch : List ℕ)
    → in_force damping_applied ≡ in_force damping_tried
    → ((u : ℕ) → u < units q → is_trial_pair (pair_at pairs u) ≡ true)
    → let tried : TryingOutcome = trying_outcome q damping_tried visible snapshot original totals in
    let applied : ApplyingOutcome = applying_outcome q damping_applied snapshot pairs snapshot in
    let own : Picture = with_directions q dirs vars in
    let m : MeasuringOutcome = measuring_outcome own damping_measured visible applied.plane original off measured scratch in
    tried.answer ≡ taken nothing
    → applied.answer ≡ taken nothing
    → own_input_passes own damping_measured measured scratch ≡ true
    → (m.answer ≡ taken nothing) × Agrees q pairs tried.totals m.totals
