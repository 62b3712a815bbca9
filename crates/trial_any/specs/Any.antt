-- The trial of a block of any sides, by the kernel of the block filter. Definitions only.
use Rattle.std.specs.Prelude.{cond, List, ℕ, ◌+◌, ◌*◌, ◌/◌, ◌%◌, eqb}
use Rattle.cdef_spec.specs.Standard.{Tap, sample}
use Rattle.filter_rows.specs.declared.Taps.{Taps}
use Rattle.filter_rows.specs.declared.Strength.{Strength}
use Rattle.filter_kernel.specs.Kernel.{kernel_at}
use Rattle.trial_strengths.specs.declared.Twelve.{Twelve}

-- the strength 0
unfoldable pub none : Strength
none = record { s = 0; sh = 0; w0 = 0; w1 = 0 }

-- the taps and the strength of primary i, and the strength of secondary j: trial t has the primary t % 4 and the secondary t / 4
unfoldable pub taps_by : Twelve → ℕ → Taps
taps_by u i = cond (eqb i 0) u.zero u.own

unfoldable pub primary_by : Twelve → ℕ → Strength
primary_by u i = cond (eqb i 0) none (cond (eqb i 1) u.p1 (cond (eqb i 2) u.p2 u.p3))

unfoldable pub secondary_by : Twelve → ℕ → Strength
secondary_by u j = cond (eqb j 0) none (cond (eqb j 1) u.s1 u.s2)

-- entry c of a trial block w wide, from the block's window: by taps and strengths, and by the trial's number
unfoldable pub kernel_tap : List ℕ → Taps → Strength → Strength → ℕ → ℕ → ℕ → Tap
kernel_tap win o f g w t c = sample (kernel_at win ((c / w + 2) * 12 + 2 + c % w) o f g)

unfoldable pub any_tap : List ℕ → Twelve → ℕ → ℕ → ℕ → Tap
unfolding kernel_tap
any_tap win u w t c = kernel_tap win (taps_by u (t % 4)) (primary_by u (t % 4)) (secondary_by u (t / 4)) w t c
