-- Sixteen samples at once: entry n of each list is sample n's.
use Rattle.std.specs.Prelude.{◌≡◌, ℕ, ◌<◌, List, slice_index, slice_index_or}
use Rattle.std.proofs.Common.{inl, refl, arith}
use Rattle.arith_sample.specs.Upto.{upto, get_or-upto, upto-all-of}
use Rattle.filter_rows.specs.Place.{on_from, back_from}
use Rattle.filter_rows.specs.Pairs.{pair_of}
use Rattle.filter_limits.specs.declared.Pair.{Pair}
use Rattle.filter_limits.specs.Limits.{HeldPair}
use Rattle.plane_taps.specs.Plain.{AllLow, Low}
use Rattle.plane_taps.specs.PlainLaws.{low_held}
use Rattle.plane_taps.specs.Runs.{Wide, run_by, on_by, back_by}
use Rattle.plane_fours.specs.Fours.{four_at, pair_in, LowPairs}
use Rattle.plane_rows.specs.LaneLaws.{below}

pub wide_four : Wide 4
wide_four = record { is = inl refl }

module _ (l : List ℕ) (w k n : ℕ) (h : n < 16) where
  pub pair_is : (o : ℕ) → pair_in (on_by 4 l w k o) (back_by 4 l w k o) n ≡ pair_of l (four_at w k n) o
  unfolding pair_in on_by back_by pair_of
  pair_is o = rw (get_or-upto (λ (j : ℕ). slice_index l (on_from (four_at w k j) o)) 16 n 0 h, get_or-upto (λ (j : ℕ). slice_index l (back_from (four_at w k j) o)) 16 n 0 h)

  pub centre-is : slice_index_or (run_by 4 l w k) n 0 ≡ slice_index l (four_at w k n)
  unfolding run_by
  centre-is = get_or-upto (λ (j : ℕ). slice_index l (four_at w k j)) 16 n 0 h

-- ---- none of them is marked

module _ (l : List ℕ) (low : AllLow l) (w k : ℕ) where
  chosen : (g : ℕ → ℕ) → AllLow (upto (λ j. slice_index l (g j)) 16)
  chosen g = record { all = upto-all-of (λ (v : ℕ). v < 4096) (λ j. slice_index l (g j)) 16 0 (λ j. low.all (g j)) (omega arith) }

  pub centre-low : AllLow (run_by 4 l w k)
  unfolding run_by
  centre-low = chosen (four_at w k)

  pub on-low : (o : ℕ) → AllLow (on_by 4 l w k o)
  unfolding on_by
  on-low o = chosen (λ j. on_from (four_at w k j) o)

  pub back_low : (o : ℕ) → AllLow (back_by 4 l w k o)
  unfolding back_by
  back_low o = chosen (λ j. back_from (four_at w k j) o)

  -- the four lists at two offsets
  pub pairs-low : (o u : ℕ) {a0 b0 a1 b1 : List ℕ} → a0 ≡ on_by 4 l w k o → b0 ≡ back_by 4 l w k o → a1 ≡ on_by 4 l w k u → b1 ≡ back_by 4 l w k u → LowPairs a0 b0 a1 b1
  pairs-low o u e0 g0 e1 g1 = record { on0 = rw e0 (on-low o); back0 = rw g0 (back_low o); on1 = rw e1 (on-low u); back1 = rw g1 (back_low u) }

pub pair-in-low : {a b : List ℕ} → AllLow a → AllLow b → (n : ℕ) → Low (pair_in a b n)
unfolding pair_in
pair-in-low {a} {b} p q n = record { on = below a p n; back = below b q n }

pub low-pair : {p : Pair} (a b : List ℕ) (n : ℕ) → AllLow a → AllLow b → p ≡ pair_in a b n → Low p
low-pair a b n x y e = rw e (pair-in-low x y n)

pub held-pair : {p : Pair} (a b : List ℕ) (n : ℕ) → AllLow a → AllLow b → p ≡ pair_in a b n → HeldPair p
held-pair a b n x y e = low_held (low-pair a b n x y e)
