-- The block that is stored row by row equals the definition's table: every sample of the destination.
use Rattle.std.specs.Prelude.{◌≡◌, Bool, cond, ◌&&◌, List, ℕ, ◌+◌, ◌-◌, ◌*◌, ◌/◌, ◌%◌, ◌≤◌, ◌<◌, min, leb, ltb}
use Rattle.std.proofs.Math.Path.{refl, sym, ap}
use Rattle.std.proofs.Common.{◌∙◌, mod-lt}
use Rattle.std.proofs.Math.Bool.{true, false}
use Rattle.std.proofs.Math.Decide.{dec_lt}
use Rattle.std.proofs.Math.Nat.{div-add-mod'}
use native.Mathlib.Omega.{arith}
use borrow.Author.Tests.{ltb-true, ltb-false, leb-true, leb-false, le-ltb}
use Rattle.std.proofs.Math.ListN.{get_or, length}
use Rattle.std.proofs.Math.Seq.{ext_get_or}
use Rattle.cdef_spec.specs.declared.Block.{Block}
use Rattle.cdef_spec.specs.declared.FilterParams.{FilterParams}
use Rattle.cdef_spec.specs.Words.{table}
use Rattle.cdef_spec.specs.WordsLaws.{length-table, get_or-table}
use Rattle.cdef_spec.specs.Standard.{Tap, missing}
use Rattle.cdef_spec.specs.Document01.{Plane, available, or_else, filter_centre, filtered}
use Rattle.cdef_spec.specs.BlockCalls.{in_block, filtered_place}
use Rattle.cdef_spec.specs.LoopForm.{put_block}
use Rattle.cdef_spec.proofs.PlaneLaws.{length-put-block, block_in, block_out}

-- off the plane there is nothing to filter
below-plane : (p : Plane) (q : FilterParams) (r c : ℕ) → p.height ≤ r → filtered p q r c ≡ missing
unfolding filtered available filter_centre
below-plane p q r c h = rw (le-ltb r p.height h)

module _ (p : Plane) (b : Block) (q : FilterParams) (y0 : ℕ) (d : List ℕ) (hx : b.x < p.width) (hy : y0 ≤ b.y) where
  -- the samples to be stored, and the rows and columns that are
  abbrev f : ℕ → ℕ → Tap
  f r c = filtered p q (y0 + r) c

  abbrev cols : ℕ
  cols = min b.width (p.width - b.x)

  abbrev rows : ℕ
  rows = min b.height (p.height - b.y)

  stored : List ℕ
  stored = put_block d p.width f (b.y - y0) b.x cols rows

  -- row r and column c of the destination
  module _ (r c : ℕ) (hc : c < p.width) (hl : r * p.width + c < length d) where
    old : ℕ
    old = get_or d (r * p.width + c) 0

    untouched : (b.y ≤ y0 + r → y0 + r < b.y + b.height → b.x ≤ c → c < b.x + b.width → y0 + r < p.height → ⊥) → get_or stored (r * p.width + c) 0 ≡ old
    unfolding stored old
    untouched g = block_out p.width f d (b.y - y0) b.x cols rows r c hc (omega arith) (λ a e k m. g (omega arith) (omega arith) k (omega arith) (omega arith))

    at_place : (s t u v : Bool) → leb b.y (y0 + r) ≡ s → ltb (y0 + r) (b.y + b.height) ≡ t → leb b.x c ≡ u → ltb c (b.x + b.width) ≡ v
        → get_or stored (r * p.width + c) 0 ≡ cond ((s && t) && (u && v)) (or_else old (f r c)) old
    at_place true true true true e g h k = go (dec_lt (y0 + r) p.height)
      where
        go : Dec (y0 + r < p.height) → get_or stored (r * p.width + c) 0 ≡ or_else old (f r c)
        go (yes l) = unfold stored old in block_in p.width f d (b.y - y0) b.x cols rows r c hc (omega arith) (omega (arith, leb-true b.y (y0 + r) e)) (omega (arith, leb-true b.y (y0 + r) e, ltb-true (y0 + r) (b.y + b.height) g)) (leb-true b.x c h) (omega (arith, ltb-true c (b.x + b.width) k)) hl
        go (no l) = rw (below-plane p q (y0 + r) c (omega arith)) (unfold or_else in untouched (λ a e k m n. l n))
    at_place true true true false e g h k = untouched (λ a i j m n. omega (arith, ltb-false c (b.x + b.width) k))
    at_place true true false v e g h k = untouched (λ a i j m n. omega (arith, leb-false b.x c h))
    at_place true false u v e g h k = untouched (λ a i j m n. omega (arith, ltb-false (y0 + r) (b.y + b.height) g))
    at_place false t u v e g h k = untouched (λ a i j m n. omega (arith, leb-false b.y (y0 + r) e))

  place : (k : ℕ) → k < length d → get_or stored k 0 ≡ filtered_place p b q y0 d k
  unfolding filtered_place in_block old
  place k h =
      let w : 0 < p.width = omega arith in
      let e : k / p.width * p.width + k % p.width ≡ k = div-add-mod' k p.width in
      ap (λ (i : ℕ). get_or stored i 0) (sym e)
      ∙ at_place (k / p.width) (k % p.width) (mod-lt k w) (omega arith) (leb b.y (y0 + k / p.width)) (ltb (y0 + k / p.width) (b.y + b.height)) (leb b.x (k % p.width)) (ltb (k % p.width) (b.x + b.width)) refl refl refl refl
      ∙ rw e

  -- the destination, sample by sample
  pub block-table : put_block d p.width (λ r c. filtered p q (y0 + r) c) (b.y - y0) b.x (min b.width (p.width - b.x)) (min b.height (p.height - b.y)) ≡ table (length d) (filtered_place p b q y0 d)
  unfolding stored
  block-table =
      let l : length stored ≡ length d = length-put-block p.width f d (b.y - y0) b.x cols rows in
      ext_get_or 0 stored _ (l ∙ sym (length-table (length d) (filtered_place p b q y0 d)))
      (λ k h. let g : k < length d = omega (arith, l) in place k g ∙ sym (get_or-table (length d) (filtered_place p b q y0 d) 0 k g))
