-- A plane that passes is full, and its depth and sides are in range.
use Rattle.std.proofs.Common.{◌≡◌, ◌*◌, ◌≤◌, length, true, ◌&&◌, sym, ◌∙◌}
use Rattle.cdef_spec.specs.Document01.{Plane}
use Rattle.cdef_spec.specs.Lent.{plane_in}
use Rattle.cdef_spec.specs.WordsLaws.{and_both}
use Rattle.cdef_spec.specs.Questions.{side_taken, full}
use Rattle.cdef_spec.specs.QuestionLaws.{depth-high}
use Rattle.check_sides.specs.SideLaws.{full-length, side-le}
use Rattle.check_block.proofs.full_plane.Goals as goal

record Passed (p : Plane) : Type 0 where
  pub full_is : length p.samples ≡ p.width * p.height
  pub wide : (1 ≤ p.width) × (p.width ≤ 4096)
  pub high : (1 ≤ p.height) × (p.height ≤ 4096)

passed : (p : Plane) → (side_taken p.width && side_taken p.height) && full p ≡ true → Passed p
passed p e =
    let b = and_both (side_taken p.width && side_taken p.height) (full p) e in
    let s = and_both (side_taken p.width) (side_taken p.height) b.0 in
    record { full_is = full-length p b.1; wide = side-le p.width s.0; high = side-le p.height s.1 }

pub invariant_of-result : goal.invariant_of-result
unfolding plane_in
invariant_of-result c =
    let f = passed (plane_in c.args.plane.now) (sym c.full.ensures ∙ c.if-not-full.false) in
    record { full = f.full_is; sides = (f.wide.1, f.high.1) }

pub returns-clause-in_range : goal.returns-clause-in_range
unfolding plane_in
returns-clause-in_range c =
    let f = passed (plane_in c.args.plane.now) (sym c.full.ensures ∙ c.if-not-full.false) in
    let d = depth-high c.args.depth (sym c.depth_taken.ensures ∙ c.if-not-depth_taken.false) in
    (d.0, d.1, f.wide.0, f.high.0)
