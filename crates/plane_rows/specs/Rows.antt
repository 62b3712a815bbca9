-- Rows of a block, their taps straight from a plane without marks. Definitions only.
use Rattle.std.specs.Prelude.{◌≡◌, List, ℕ, zero, suc, ◌+◌, ◌-◌, ◌*◌, ◌<◌, get_or, set}
use Rattle.cdef_spec.specs.Standard.{Tap}
use Rattle.cdef_spec.specs.Document01.{unmarked}
use Rattle.cdef_spec.specs.LoopForm.{put_block}
use Rattle.filter_rows.specs.Pairs.{pair_of}
use Rattle.filter_rows.specs.declared.Taps.{Taps}
use Rattle.filter_rows.specs.declared.Strength.{Strength}
use Rattle.filter_kernel.specs.Kernel.{kernel_at}
use Rattle.plane_taps.specs.Plain.{first_of}
use Rattle.plane_taps.specs.declared.plain.Part.{Part}

-- ---- strengths by their numbers

-- the primary taps are weighted near and 6 - near, the secondary ones 2 and 1
unfoldable pub pri_in : ℕ → ℕ → ℕ → Strength
pri_in s sh near = record { s = s; sh = sh; w0 = near; w1 = 6 - near }

unfoldable pub sec_in : ℕ → ℕ → Strength
sec_in s sh = record { s = s; sh = sh; w0 = 2; w1 = 1 }

-- ---- one sample

-- the primary taps of one sample
unfoldable pub first_at : List ℕ → ℕ → Taps → Strength → Part
first_at l k t f = first_of (pair_of l k t.p0) (pair_of l k t.p1) (get_or l k 0) f

-- ---- what is stored

-- n entries of v, from `from` on, stored from index `to` on
unfoldable pub placed : List ℕ → ℕ → List ℕ → ℕ → ℕ → List ℕ
placed d to v from zero = d
placed d to v from (suc n) = set (placed d to v from n) (to + n) (get_or v (from + n) 0)

-- n rows of m
unfoldable pub placed_rows : List ℕ → ℕ → ℕ → List ℕ → ℕ → ℕ → List ℕ
placed_rows d w to v m zero = d
placed_rows d w to v m (suc n) = placed (placed_rows d w to v m n) (to + n * w) v (n * m) m

-- v has the kernel's samples of n rows of m, from index `at` of the plane on
pub record KernelRows (l v : List ℕ) (w at : ℕ) (t : Taps) (f g : Strength) (m n : ℕ) : Type 0 where
  pub all : (i j : ℕ) → i < n → j < m → get_or v (i * m + j) 0 ≡ kernel_at l (at + i * w + j) t f g

-- the kernel's samples from index `at` of the plane on, as the destination's from row y and column x on
unfoldable pub inside_tap : List ℕ → ℕ → ℕ → Taps → Strength → Strength → ℕ → ℕ → ℕ → ℕ → Tap
inside_tap l w at t f g y x r c = unmarked (kernel_at l (at + ((r - y) * w + (c - x))) t f g)

-- the destination d has become `last`: n rows of `cols` filtered samples, from index `to` on, whatever row y and column x that is
pub record Stored (l d last : List ℕ) (w at to : ℕ) (t : Taps) (f g : Strength) (cols n : ℕ) : Type 0 where
  pub block : (y x : ℕ) → to ≡ y * w + x → last ≡ put_block d w (inside_tap l w at t f g y x) y x cols n
