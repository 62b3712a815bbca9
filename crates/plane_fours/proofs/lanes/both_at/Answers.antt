-- `plane_fours::lanes::both_at` meets its contract.
use Rattle.std.proofs.Common.{◌∙◌}
use Rattle.plane_fours.specs.Fours.{both_lane}
use Rattle.plane_fours.specs.RunLaws.{low-pair}
use Rattle.plane_rows.specs.LaneLaws.{below, first-low}
use Rattle.plane_fours.proofs.lanes.both_at.Goals as goal

pub first-m-requires : goal.first-m-requires
first-m-requires c = let r = c.requires in
    (low-pair _ _ _ r.2.on0 r.2.back0 c.pair.ensures, low-pair _ _ _ r.2.on1 r.2.back1 c.pair-2.ensures, below c.args.c.now r.1 _, r.5)

pub last-requires : goal.last-requires
last-requires c = let r = c.requires in (
  rw c.first-m.ensures (first-low (low-pair _ _ _ r.2.on0 r.2.back0 c.pair.ensures) (low-pair _ _ _ r.2.on1 r.2.back1 c.pair-2.ensures) (below c.args.c.now r.1 _) r.5),
  low-pair _ _ _ r.3.on0 r.3.back0 c.pair-q0.ensures,
  low-pair _ _ _ r.3.on1 r.3.back1 c.pair-q1.ensures,
  low-pair _ _ _ r.4.on0 r.4.back0 c.pair-r0.ensures,
  low-pair _ _ _ r.4.on1 r.4.back1 c.pair-r1.ensures,
  below c.args.c.now r.1 _,
  r.6,
)

pub returns : goal.returns
unfolding both_lane
returns c = c.last.ensures ∙ rw (c.first-m.ensures, c.pair.ensures, c.pair-2.ensures, c.pair-q0.ensures, c.pair-q1.ensures, c.pair-r0.ensures, c.pair-r1.ensures)
