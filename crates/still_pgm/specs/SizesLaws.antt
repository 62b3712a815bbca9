-- Laws of the sizes that are accepted, and of what is wrong with a file.
use Rattle.std.specs.Prelude.{◌≡◌, refl, Bool, cond, leb, eqb, Some, None, is_none}
use Rattle.std.proofs.Math.Bool.{true, false}
use Prim.Native.Nat.{ℕ, ◌*◌, ◌≤◌, ◌<◌}
use Rattle.std.proofs.Common.{mul-le-mul, le_trans, arith}
use borrow.Author.Tests.{eq-eqb, ne_eqb, eqb-true, leb-true}
use Rattle.still_pgm.specs.declared.header.Header.{Header}
use Rattle.still_pgm.specs.declared.format.Fault.TheVariants.{Maximum, Size, Length}
use Rattle.still_text.specs.TextLaws.{and_both}
use Rattle.still_pgm.specs.Sizes.{depth_of, step_of, padded, is_side, is_taken}
use Rattle.still_pgm.specs.Faults.{fault_in}

pub depth_none : (m : ℕ) → (m ≡ 255 → ⊥) → (m ≡ 511 → ⊥) → (m ≡ 1023 → ⊥) → (m ≡ 2047 → ⊥) → (m ≡ 4095 → ⊥) → None ≡ depth_of m
unfolding depth_of
depth_none m a b c d e = rw (ne_eqb m 255 a, ne_eqb m 511 b, ne_eqb m 1023 c, ne_eqb m 2047 d, ne_eqb m 4095 e) refl

pub step_range : (m : ℕ) → (1 ≤ step_of m) × (step_of m ≤ 2)
unfolding step_of
step_range m = go (leb m 255)
  where
    go : (t : Bool) → (1 ≤ cond t 1 2) × (cond t 1 2 ≤ 2)
    go true = omega arith
    go false = omega arith

pub side-range : (side : ℕ) → is_side side ≡ true → (0 < side) × (side ≤ 4096)
unfolding is_side
side-range side e = let p : (leb 1 side ≡ true) × (leb side 4096 ≡ true) = and_both _ _ e in (omega (arith, leb-true 1 side p.0), leb-true side 4096 p.1)

-- the room of padded sides
pub padded-room : (w h : ℕ) → w ≤ 4096 → h ≤ 4096 → padded w * padded h ≤ 4096 * 4096
padded-room w h a b =
    let c : padded w ≤ 4096 = omega arith in
    let d : padded h ≤ 4096 = omega arith in
    mul-le-mul c d

-- what holds of sides that are accepted
pub record Taken (w h : ℕ) : Type 0 where
  pub width_low : 0 < w
  pub width-high : w ≤ 4096
  pub height-low : 0 < h
  pub height-high : h ≤ 4096
  pub room : padded w * padded h ≤ 786432

pub taken : (w h : ℕ) → is_taken w h ≡ true → Taken w h
unfolding is_taken
taken w h e =
    let p = and_both _ _ e in
    let q = and_both _ _ p.1 in
    let a = side-range w p.0 in
    let b = side-range h q.0 in
    record { width_low = a.0; width-high = a.1; height-low = b.0; height-high = b.1; room = leb-true (padded w * padded h) 786432 q.1 }

-- ---- what is wrong with a file

module _ (n : ℕ) (h : Header) where
  pub fault_maximum : depth_of h.maximum ≡ None → Some Maximum ≡ fault_in n h
  unfolding fault_in
  fault_maximum d = rw d refl

  module _ (depth : ℕ) (d : depth_of h.maximum ≡ Some depth) where
    pub fault_size : is_taken h.width h.height ≡ false → Some Size ≡ fault_in n h
    unfolding fault_in
    fault_size t = rw (d, t) refl

    pub fault_length : is_taken h.width h.height ≡ true → (n ≡ h.width * h.height * step_of h.maximum → ⊥) → Some Length ≡ fault_in n h
    unfolding fault_in
    fault_length t l = rw (d, t, ne_eqb n (h.width * h.height * step_of h.maximum) l) refl

    pub fault_none : is_taken h.width h.height ≡ true → n ≡ h.width * h.height * step_of h.maximum → None ≡ fault_in n h
    unfolding fault_in
    fault_none t l = rw (d, t, eq-eqb n (h.width * h.height * step_of h.maximum) l) refl

  -- a sound file has sides that are accepted, and its length
  pub sound-taken : fault_in n h ≡ None → (is_taken h.width h.height ≡ true) × (n ≡ h.width * h.height * step_of h.maximum)
  unfolding fault_in
  sound-taken e =
      let l : ℕ = h.width * h.height * step_of h.maximum in
      let p = go (is_none (depth_of h.maximum)) (is_taken h.width h.height) (eqb n l) e in
      (p.0, eqb-true n l p.1)
    where
      go : (d t l : Bool) → cond d (Some Maximum) (cond t (cond l None (Some Length)) (Some Size)) ≡ None → (t ≡ true) × (l ≡ true)
      go false true true e = (refl, refl)
      go false true false e = absurd cc
      go false false l e = absurd cc
      go true t l e = absurd cc

-- the samples of sides that are accepted
pub samples-room : (w h m : ℕ) → is_taken w h ≡ true → (w * h ≤ 4096 * 4096) × (w * h * step_of m ≤ 4096 * 4096 * 2)
samples-room w h m e =
    let t = taken w h e in
    let a : w * h ≤ 4096 * 4096 = mul-le-mul t.width-high t.height-high in
    (a, mul-le-mul a (step_range m).1)

-- the bytes of the samples of sides that are accepted
pub bytes-room : (w h m : ℕ) → is_taken w h ≡ true → w * h * step_of m ≤ 1572864
bytes-room w h m e =
    let t = taken w h e in
    let a : w ≤ padded w = omega arith in
    let b : h ≤ padded h = omega arith in
    let c : w * h ≤ 786432 = le_trans (mul-le-mul a b) t.room in
    mul-le-mul c (step_range m).1

-- as many samples as two padded sides of an accepted picture have
pub padded_room : (w h pitch rows : ℕ) → is_taken w h ≡ true → pitch ≡ padded w → rows ≡ padded h → pitch * rows ≤ 786432
padded_room w h pitch rows t p r = rw (p, r) (taken w h t).room
