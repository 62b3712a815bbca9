-- A frame call from its checks: what its core requires where they pass, and the outcome either way.
use Rattle.std.specs.Prelude.{◌≡◌, refl, Bool, true, List, [], ◌∷◌, ℕ, ◌*◌, ◌/◌, ◌%◌, ◌≤◌, ℤ, pos, length, replicate, Ok, Err, Result as RustResult, Option}
use Rattle.std.proofs.Common.{ne_eqb, eqb-true, eq-eqb}
use Rattle.cdef_spec.specs.declared.SignalledDamping.{SignalledDamping}
use Rattle.cdef_spec.specs.declared.Refusal.{Refusal}
use Rattle.cdef_spec.specs.declared.UnitPair.{UnitPair}
use Rattle.cdef_spec.specs.declared.Visible.{Visible}
use Rattle.cdef_spec.specs.Words.{table}
use Rattle.cdef_spec.specs.WordsLaws.{and_both}
use Rattle.cdef_spec.specs.Document01.{in_force}
use Rattle.cdef_spec.specs.Picture.{Picture, plane_width, plane_height, units, tried_total, measured_total, applied_plane}
use Rattle.cdef_spec.specs.Answers.{read_done, code_of}
use Rattle.cdef_spec.specs.AnswerLaws.{not-zero, read_done-err}
use Rattle.cdef_spec.specs.Questions.{full_planes, picture_listed, visible_taken, picture_taken}
use Rattle.cdef_spec.specs.QuestionLaws.{Taken, questions-yes}
use Rattle.cdef_spec.specs.FrameCalls.{trying_no, trying_outcome, scratch_length, measuring_no, measuring_outcome}
use Rattle.check_picture.specs.RefusalLaws.{done-is}
use Rattle.cdef_pairs.specs.KindLaws.{pair-low}
use Rattle.cdef_pairs.specs.Applying.{applying_by_no, applying_by_outcome}

-- ---- what passing says

module _ {q : Picture} {d : SignalledDamping} {planes : List (List ℕ)} {lists values : Bool} {looked : List (List ℕ)} (t : Taken q d planes lists values looked) where
  own-lists : lists ≡ true
  own-lists = (and_both (picture_listed q) lists t.seven).1

  own-values : values ≡ true
  own-values = (and_both (picture_taken q d) values t.eight).1

second-long : (q : Picture) (a b : List ℕ) → full_planes q (a ∷ b ∷ []) ≡ true → length b ≡ plane_width q * plane_height q
unfolding full_planes
second-long q a b e = eqb-true _ _ (and_both _ _ (and_both _ _ e).1).0

-- ---- applying

module _ (q : Picture) (d : Option SignalledDamping) (snapshot : List ℕ) (listed : ℕ → Bool) (values : Bool) (ps : List UnitPair) (dst : List ℕ) where
  pub applying-refuses : (B : Type 0) (r : Refusal) (x : RustResult (Unit {0}) Refusal) → x ≡ Err r → code_of {A = B} (Err r) ≡ applying_by_no q d snapshot listed values dst
      → applying_by_outcome q d snapshot listed values ps dst ≡ record { answer = read_done x; plane = dst }
  unfolding applying_by_outcome
  applying-refuses B r x e h = rw (e, read_done-err B r _ h, ne_eqb _ 0 (not-zero B r _ h)) refl

  module _ (z : applying_by_no q d snapshot listed values dst ≡ 0) where
    yes : Taken q (in_force d) (snapshot ∷ dst ∷ []) (listed (units q)) values (snapshot ∷ [])
    unfolding applying_by_no
    yes = questions-yes _ _ _ _ _ _ z

    pub applying-listed : listed (units q) ≡ true
    applying-listed = own-lists yes

    pub applying-taken : values ≡ true
    applying-taken = own-values yes

    pub applying-long : length dst ≡ plane_width q * plane_height q
    applying-long = second-long q snapshot dst yes.four

    pub applying-does : (done : Unit {0}) (p : List ℕ) → p ≡ applied_plane q (in_force d) snapshot ps dst → applying_by_outcome q d snapshot listed values ps dst ≡ record { answer = read_done (Ok done); plane = p }
    unfolding applying_by_outcome
    applying-does done p e = rw (e, done-is done _ z, eq-eqb _ 0 z) refl

-- ---- trying

module _ (q : Picture) (d : Option SignalledDamping) (v : Visible) (snapshot original : List ℕ) (totals : List ℤ) where
  pub trying-refuses : (B : Type 0) (r : Refusal) (x : RustResult (Unit {0}) Refusal) → x ≡ Err r → code_of {A = B} (Err r) ≡ trying_no q d v snapshot original totals
      → trying_outcome q d v snapshot original totals ≡ record { answer = read_done x; totals = totals }
  unfolding trying_outcome
  trying-refuses B r x e h = rw (e, read_done-err B r _ h, ne_eqb _ 0 (not-zero B r _ h)) refl

  module _ (z : trying_no q d v snapshot original totals ≡ 0) where
    pub trying-long : length totals ≡ 12 * units q
    unfolding trying_no
    trying-long = eqb-true _ _ (and_both _ (visible_taken q v) (own-lists (questions-yes _ _ _ _ _ _ z))).0

    pub trying-does : (done : Unit {0}) (t : List ℤ) → t ≡ table (12 * units q) (λ k. pos (tried_total q (in_force d) v snapshot original (k / 12) (k % 12)))
        → trying_outcome q d v snapshot original totals ≡ record { answer = read_done (Ok done); totals = t }
    unfolding trying_outcome
    trying-does done t e = rw (e, done-is done _ z, eq-eqb _ 0 z) refl

-- ---- measuring

module _ (q : Picture) (d : Option SignalledDamping) (v : Visible) (plane original : List ℕ) (p : UnitPair) (totals : List ℤ) (scratch : List ℕ) where
  pub measuring-refuses : (B : Type 0) (r : Refusal) (x : RustResult (Unit {0}) Refusal) → x ≡ Err r → code_of {A = B} (Err r) ≡ measuring_no q d v plane original p totals scratch
      → measuring_outcome q d v plane original p totals scratch ≡ record { answer = read_done x; totals = totals; scratch = scratch }
  unfolding measuring_outcome
  measuring-refuses B r x e h = rw (e, read_done-err B r _ h, ne_eqb _ 0 (not-zero B r _ h)) refl

  module _ (z : measuring_no q d v plane original p totals scratch ≡ 0) where
    sizes : (length totals ≡ units q) × (length scratch ≡ scratch_length q)
    unfolding measuring_no
    sizes =
        let b = and_both _ _ (and_both _ (visible_taken q v) (own-lists (questions-yes _ _ _ _ _ _ z))).0 in
        (eqb-true _ _ b.0, eqb-true _ _ b.1)

    pub measuring-long : length totals ≡ units q
    measuring-long = sizes.0

    pub scratch-long : length scratch ≡ scratch_length q
    scratch-long = sizes.1

    pub measuring-low : (p.primary ≤ 15) × (p.secondary ≤ 4)
    unfolding measuring_no
    measuring-low = pair-low p (own-values (questions-yes _ _ _ _ _ _ z))

    pub measuring-does : (done : Unit {0}) (t : List ℤ) (s : List ℕ) → t ≡ table (units q) (λ u. pos (measured_total q (in_force d) v plane original p u)) → s ≡ replicate (scratch_length q) 0
        → measuring_outcome q d v plane original p totals scratch ≡ record { answer = read_done (Ok done); totals = t; scratch = s }
    unfolding measuring_outcome
    measuring-does done t s e f = rw (e, f, done-is done _ z, eq-eqb _ 0 z) refl
