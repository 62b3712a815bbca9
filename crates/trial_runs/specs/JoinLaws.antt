-- Two rows or two blocks side by side are one.
use Rattle.std.specs.Prelude.{◌≡◌, List, ℕ, zero, suc, ◌+◌, ◌*◌, ◌/◌, ◌%◌, ◌≤◌, ◌<◌, length}
use Rattle.std.proofs.Math.Path.{sym, ap}
use Rattle.std.proofs.Common.{◌∙◌, mod-lt, arith}
use Rattle.std.proofs.Math.Decide.{dec_le, dec_lt}
use Rattle.std.proofs.Math.Nat.{div-add-mod'}
use Rattle.std.proofs.Math.ListN.{get_or}
use Rattle.std.proofs.Math.Seq.{ext_get_or}
use Rattle.cdef_spec.specs.Standard.{Tap}
use Rattle.cdef_spec.specs.Document01.{or_else}
use Rattle.cdef_spec.specs.LoopForm.{put_row, put_block}
use Rattle.cdef_spec.proofs.PlaneLaws.{length-put-block, block_in, block_out}

-- entries of a row from the first on, then those after them
pub row-join : (d : List ℕ) (w : ℕ) (f : ℕ → ℕ → Tap) (r a n : ℕ) → put_row (put_row d w f r 0 a) w f r a n ≡ put_row d w f r 0 (a + n)
unfolding put_row
row-join d w f r a zero = let z : a + 0 ≡ a = omega arith in rw z
row-join d w f r a (suc n) =
    let z : a + suc n ≡ suc (a + n) = omega arith in
    let y : 0 + (a + n) ≡ a + n = omega arith in
    rw (z, row-join d w f r a n, y)

module _ (d : List ℕ) (w : ℕ) (f : ℕ → ℕ → Tap) (y x m m2 n : ℕ) (hx : x + m + m2 ≤ w) where
  -- the first block, then the second
  unfoldable left : List ℕ
  left = put_block d w f y x m n

  unfoldable two : List ℕ
  two = put_block left w f y (x + m) m2 n

  unfoldable one : List ℕ
  one = put_block d w f y x (m + m2) n

  length-left : length left ≡ length d
  unfolding left
  length-left = length-put-block w f d y x m n

  length_two : length two ≡ length d
  unfolding two
  length_two = length-put-block w f left y (x + m) m2 n ∙ length-left

  length-one : length one ≡ length d
  unfolding one
  length-one = length-put-block w f d y x (m + m2) n

  module _ (r c : ℕ) (hc : c < w) (hl : r * w + c < length d) where
    outside : (y ≤ r → r < y + n → x ≤ c → c < x + (m + m2) → ⊥) → get_or two (r * w + c) 0 ≡ get_or one (r * w + c) 0
    unfolding two left one
    outside g =
        block_out w f left y (x + m) m2 n r c hc hx (λ a b e h. g a b (omega arith) (omega arith))
        ∙ block_out w f d y x m n r c hc (omega arith) (λ a b e h. g a b e (omega arith))
        ∙ sym (block_out w f d y x (m + m2) n r c hc (omega arith) g)

    inside : y ≤ r → r < y + n → x ≤ c → c < x + (m + m2) → get_or two (r * w + c) 0 ≡ get_or one (r * w + c) 0
    unfolding two left one
    inside a b lo hi = go (dec_lt c (x + m)) ∙ sym (block_in w f d y x (m + m2) n r c hc (omega arith) a b lo hi hl)
      where
        go : Dec (c < x + m) → get_or (put_block left w f y (x + m) m2 n) (r * w + c) 0 ≡ or_else (get_or d (r * w + c) 0) (f r c)
        go (yes h) =
            block_out w f left y (x + m) m2 n r c hc hx (λ i j k l. omega arith)
            ∙ block_in w f d y x m n r c hc (omega arith) a b lo h hl
        go (no h) =
            block_in w f left y (x + m) m2 n r c hc hx a b (omega arith) (omega arith) (omega (arith, length-left))
            ∙ ap (λ (v : ℕ). or_else v (f r c)) (block_out w f d y x m n r c hc (omega arith) (λ i j k l. omega arith))

    at_place : get_or two (r * w + c) 0 ≡ get_or one (r * w + c) 0
    at_place = go (dec_le y r) (dec_lt r (y + n)) (dec_le x c) (dec_lt c (x + (m + m2)))
      where
        go : Dec (y ≤ r) → Dec (r < y + n) → Dec (x ≤ c) → Dec (c < x + (m + m2)) → get_or two (r * w + c) 0 ≡ get_or one (r * w + c) 0
        go (yes a) (yes b) (yes e) (yes h) = inside a b e h
        go (no k) _ _ _ = outside (λ a b e h. k a)
        go (yes a) (no k) _ _ = outside (λ a b e h. k b)
        go (yes a) (yes b) (no k) _ = outside (λ a b e h. k e)
        go (yes a) (yes b) (yes e) (no k) = outside (λ a b e h. k h)

  pub block-join : 0 < w → put_block (put_block d w f y x m n) w f y (x + m) m2 n ≡ put_block d w f y x (m + m2) n
  unfolding two left one
  block-join hw =
      ext_get_or 0 two one (length_two ∙ sym length-one)
      (λ k h.
      let e : k / w * w + k % w ≡ k = div-add-mod' k w in
      ap (λ (i : ℕ). get_or two i 0) (sym e)
      ∙ at_place (k / w) (k % w) (mod-lt k hw) (omega (arith, length_two))
      ∙ ap (λ (i : ℕ). get_or one i 0) e)

-- a run of sixteen columns more, of blocks 64 wide
pub run_join : (d l : List ℕ) (f : ℕ → ℕ → Tap) (i n : ℕ) → (i + 1) * 16 ≤ 64 → d ≡ put_block l 64 f 0 0 (i * 16) n → put_block d 64 f 0 (i * 16) 16 n ≡ put_block l 64 f 0 0 ((i + 1) * 16) n
run_join d l f i n h e =
    let z : (i + 1) * 16 ≡ i * 16 + 16 = omega arith in
    let o : 0 + i * 16 ≡ i * 16 = omega arith in
    rw (e, z) (rw o at (block-join l 64 f 0 0 (i * 16) 16 n (omega arith) (omega arith)))
