-- The sums of one sample from its taps as the window holds them; a marked one counts 0. A pair is a tap and its opposite. Definitions only.
use Rattle.std.specs.Prelude.{Bool, ℕ, cond, List, ℤ, pos, ◌+ℤ◌, ◌*ℤ◌, ◌==◌, slice_index}
use Rattle.arith_sample.specs.Sample.{con_of}
use Rattle.filter_rows.specs.Place.{on_from, back_from}
use Rattle.filter_rows.specs.declared.Taps.{Taps}
use Rattle.filter_rows.specs.declared.Strength.{Strength}
use Rattle.filter_limits.specs.declared.Pair.{Pair}
use Rattle.filter_limits.specs.declared.Pairs.{Pairs}

unfoldable pub pair_of : List ℕ → ℕ → ℕ → Pair
pair_of w k o = record { on = slice_index w (on_from k o); back = slice_index w (back_from k o) }

unfoldable pub pairs_of : List ℕ → ℕ → Taps → Pairs
pairs_of w k t = record {
  p0 = pair_of w k t.p0;
  p1 = pair_of w k t.p1;
  q0 = pair_of w k t.q0;
  q1 = pair_of w k t.q1;
  r0 = pair_of w k t.r0;
  r1 = pair_of w k t.r1;
}

-- a tap's constrained difference, 0 where the tap is marked
unfoldable pub con_tap : ℕ → ℕ → ℕ → ℕ → ℤ
con_tap t c s sh = cond (t == 16384) (pos 0) (con_of t c s sh)

unfoldable pub pair_sum : Pair → ℕ → ℕ → ℕ → ℤ
pair_sum p c s sh = con_tap p.on c s sh +ℤ con_tap p.back c s sh

unfoldable pub weighed : ℤ → ℤ → Strength → ℤ
weighed a b f = pos f.w0 *ℤ a +ℤ pos f.w1 *ℤ b

unfoldable pub pri_sum : Pairs → ℕ → Strength → ℤ
pri_sum e c f = weighed (pair_sum e.p0 c f.s f.sh) (pair_sum e.p1 c f.s f.sh) f

unfoldable pub sec_sum : Pairs → ℕ → Strength → ℤ
sec_sum e c f =
    weighed
    (pair_sum e.q0 c f.s f.sh +ℤ pair_sum e.r0 c f.s f.sh)
    (pair_sum e.q1 c f.s f.sh +ℤ pair_sum e.r1 c f.s f.sh)
    f

-- the primary (false) or the secondary one (true)
unfoldable pub alone_sum : Bool → Pairs → ℕ → Strength → ℤ
alone_sum b e c f = cond b (sec_sum e c f) (pri_sum e c f)
