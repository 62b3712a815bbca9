-- Runs of sixteen samples of a trial block, finished and stored. Definitions only.
use Rattle.std.specs.Prelude.{List, ℕ, ◌-◌, ℤ, pos, ◌+ℤ◌, get_or}
use Rattle.std.specs.Int.Signed.{mag}
use Rattle.cdef_spec.specs.Standard.{Tap, sample}
use Rattle.arith_sample.specs.Sample.{moved_of, over_of, under_of}

-- sample j of a run: its centre by one sum, and by both
unfoldable pub raised_at : List ℕ → List ℤ → ℕ → ℕ
raised_at c s j = mag (over_of (moved_of (get_or c j 0) (get_or s j (pos 0))) 0)

unfoldable pub clipped_at : List ℕ → List ℤ → List ℤ → List ℕ → List ℕ → ℕ → ℕ
clipped_at c p s lo hi j = mag (under_of (over_of (moved_of (get_or c j 0) (get_or p j (pos 0) +ℤ get_or s j (pos 0))) (get_or lo j 0)) (get_or hi j 0))

-- entry x of trial block t, where the run begins at entry k, as a sample to be stored (t is not used): passed in; by one sum; by both
unfoldable pub run_tap : List ℕ → ℕ → ℕ → ℕ → Tap
run_tap v k t x = sample (get_or v (x - k) 0)

unfoldable pub raised_tap : List ℕ → List ℤ → ℕ → ℕ → ℕ → Tap
raised_tap c s k t x = sample (raised_at c s (x - k))

unfoldable pub clipped_tap : List ℕ → List ℤ → List ℤ → List ℕ → List ℕ → ℕ → ℕ → ℕ → Tap
clipped_tap c p s lo hi k t x = sample (clipped_at c p s lo hi (x - k))
