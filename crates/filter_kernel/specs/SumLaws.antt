-- The standard's twelve taps as the samples that the code reads: the sum, the greatest and the least.
use Rattle.std.specs.Prelude.{◌≡◌, List, [], ◌∷◌, ◌++◌, ℕ, ◌+◌, ◌-◌, ◌%◌, ◌≤◌, ◌<◌, min, max, ℤ, pos, ◌+ℤ◌, ◌*ℤ◌}
use Rattle.std.proofs.Math.Path.{refl, ap}
use Rattle.std.proofs.Common.{◌∙◌}
use native.Mathlib.Omega.{arith}
use Rattle.cdef_spec.specs.declared.FilterParams.{FilterParams}
use Rattle.cdef_spec.specs.Standard.{Tap}
use Rattle.cdef_spec.specs.Document01.{Plane, unmarked, available}
use Rattle.cdef_spec.specs.CodeForm.{row_of, col_of, sample_at}
use Rattle.cdef_spec.proofs.PlaceLaws.{tap-forward, tap-back}
use Rattle.cdef_spec.proofs.TapLaws.{Visit}
use Rattle.cdef_spec.proofs.TrialLaws.{adds, total, higher, lower, highest, lowest, pri_taps, sec_taps}
use Rattle.arith_sample.specs.Sample.{or_centre, con_of}
use Rattle.filter_kernel.specs.Kernel.{shift_of}
use Rattle.filter_kernel.specs.TapLaws.{adds-is, higher-is, lower-is}

-- the visits' taps are those of the samples, none above the mark
pub data Matches : List Visit → List ℕ → Type 0 where
  none : Matches [] []
  more : {t : Visit} {s : ℕ} {ts : List Visit} {ss : List ℕ} → t.tap ≡ unmarked s → s ≤ 16384 → Matches ts ss → Matches (t ∷ ts) (s ∷ ss)

pub joined : {ts us : List Visit} {ss vs : List ℕ} → Matches ts ss → Matches us vs → Matches (ts ++ us) (ss ++ vs)
joined none b = b
joined (more e h a) b = more e h (joined a b)

-- around a centre c, at damping d: what the samples add, and their greatest and least from m on
unfoldable pub summed : ℕ → ℕ → List Visit → List ℕ → ℤ
summed c d [] ss = pos 0
summed c d (t ∷ ts) [] = pos 0
summed c d (t ∷ ts) (s ∷ ss) = pos t.weight *ℤ con_of (or_centre s c) c t.strength (shift_of t.strength d) +ℤ summed c d ts ss

unfoldable pub greatest : ℕ → List ℕ → ℕ → ℕ
greatest c [] m = m
greatest c (s ∷ ss) m = greatest c ss (max m (or_centre s c))

unfoldable pub smallest : ℕ → List ℕ → ℕ → ℕ
smallest c [] m = m
smallest c (s ∷ ss) m = smallest c ss (min m (or_centre s c))

module _ (c : ℕ) (hc : c ≤ 16384) (n : c ≡ 16384 → ⊥) where
  adds-by : (d : ℕ) (t : Visit) (s : ℕ) → t.tap ≡ unmarked s → s ≤ 16384 → adds c d t.weight t.strength t.tap ≡ pos t.weight *ℤ con_of (or_centre s c) c t.strength (shift_of t.strength d)
  adds-by d t s e h = ap (λ (x : Tap). adds c d t.weight t.strength x) e ∙ adds-is s c h hc n t.weight t.strength d

  pub total-is : (d : ℕ) {ts : List Visit} {ss : List ℕ} → Matches ts ss → total c d ts ≡ summed c d ts ss
  unfolding total summed
  total-is d none = refl
  total-is d (more {t = t} {s = s} e h m) = rw (adds-by d t s e h, total-is d m)

  pub highest-is : {ts : List Visit} {ss : List ℕ} → Matches ts ss → (m : ℕ) → c ≤ m → highest ts m ≡ greatest c ss m
  unfolding highest greatest
  highest-is none m l = refl
  highest-is (more {t = t} {s = s} {ts = ts} e h k) m l =
      ap (λ (x : Tap). highest ts (higher x m)) e ∙ ap (highest ts) (higher-is s c h hc n m l) ∙ highest-is k (max m (or_centre s c)) (omega arith)

  pub lowest-is : {ts : List Visit} {ss : List ℕ} → Matches ts ss → (m : ℕ) → m ≤ c → lowest ts m ≡ smallest c ss m
  unfolding lowest smallest
  lowest-is none m l = refl
  lowest-is (more {t = t} {s = s} {ts = ts} e h k) m l =
      ap (λ (x : Tap). lowest ts (lower x m)) e ∙ ap (lowest ts) (lower-is s c h hc n m l) ∙ lowest-is k (min m (or_centre s c)) (omega arith)

-- ---- the taps of a sample of the plane

module _ (p : Plane) (y x : ℕ) where
  -- the sample forward along a direction, and the one back
  unfoldable pub on_sample : ℕ → ℕ → ℕ
  on_sample dir k = sample_at p (y + row_of dir k) (x + col_of dir k)

  unfoldable pub back_sample : ℕ → ℕ → ℕ
  back_sample dir k = sample_at p (y + (4 - row_of dir k)) (x + (4 - col_of dir k))

  -- the four of a direction
  unfoldable pub along : ℕ → List ℕ
  along dir = on_sample dir 0 ∷ back_sample dir 0 ∷ on_sample dir 1 ∷ back_sample dir 1 ∷ []

  module _ (b : FilterParams) (hd : b.dir < 8) (held : (r c : ℕ) → r ≤ 4 → c ≤ 4 → sample_at p (y + r) (x + c) ≤ 16384) where
    on-le : (dir k : ℕ) → dir < 8 → k < 2 → on_sample dir k ≤ 16384
    unfolding on_sample
    on-le dir k h g = let l = Rattle.cdef_spec.proofs.PlaceLaws.steps_low dir k h g in held (row_of dir k) (col_of dir k) l.0 l.1

    back-le : (dir k : ℕ) → dir < 8 → k < 2 → back_sample dir k ≤ 16384
    unfolding back_sample
    back-le dir k h g = let l = Rattle.cdef_spec.proofs.PlaceLaws.steps_low dir k h g in held (4 - row_of dir k) (4 - col_of dir k) (omega arith) (omega arith)

    pub pri-matches : Matches (pri_taps (available p) y x 0 b) (along b.dir)
    unfolding along on_sample back_sample
    pri-matches =
        more (tap-forward p y x b.dir 0 hd (omega arith)) (on-le b.dir 0 hd (omega arith))
        (more (tap-back p y x b.dir 0 hd (omega arith)) (back-le b.dir 0 hd (omega arith))
        (more (tap-forward p y x b.dir 1 hd (omega arith)) (on-le b.dir 1 hd (omega arith))
        (more (tap-back p y x b.dir 1 hd (omega arith)) (back-le b.dir 1 hd (omega arith)) none)))

    pub sec-matches : Matches (sec_taps (available p) y x 0 b) (along ((b.dir + 2) % 8) ++ along ((b.dir + 6) % 8))
    unfolding along on_sample back_sample
    sec-matches =
        let q : (b.dir + 2) % 8 < 8 = omega arith in
        let r : (b.dir + 6) % 8 < 8 = omega arith in
        more (tap-forward p y x ((b.dir + 2) % 8) 0 q (omega arith)) (on-le ((b.dir + 2) % 8) 0 q (omega arith))
        (more (tap-back p y x ((b.dir + 2) % 8) 0 q (omega arith)) (back-le ((b.dir + 2) % 8) 0 q (omega arith))
        (more (tap-forward p y x ((b.dir + 2) % 8) 1 q (omega arith)) (on-le ((b.dir + 2) % 8) 1 q (omega arith))
        (more (tap-back p y x ((b.dir + 2) % 8) 1 q (omega arith)) (back-le ((b.dir + 2) % 8) 1 q (omega arith))
        (more (tap-forward p y x ((b.dir + 6) % 8) 0 r (omega arith)) (on-le ((b.dir + 6) % 8) 0 r (omega arith))
        (more (tap-back p y x ((b.dir + 6) % 8) 0 r (omega arith)) (back-le ((b.dir + 6) % 8) 0 r (omega arith))
        (more (tap-forward p y x ((b.dir + 6) % 8) 1 r (omega arith)) (on-le ((b.dir + 6) % 8) 1 r (omega arith))
        (more (tap-back p y x ((b.dir + 6) % 8) 1 r (omega arith)) (back-le ((b.dir + 6) % 8) 1 r (omega arith)) none)))))))
