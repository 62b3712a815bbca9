-- The bits of the block, cropped to the plane, decide question 9.
use Rattle.std.proofs.Common.{◌≡◌, ◌∙◌, ℕ, ◌-◌, arith, min}
use Rattle.std.proofs.lemmas.Grind.{common_steps}
use Rattle.std.specs.Ordering.{ord_min, nat_cmp}
use Rattle.cdef_spec.specs.Lent.{plane_in_full}
use Rattle.check_samples.specs.Looked.{or_rows}
use Rattle.check_samples.specs.LookedLaws.{cut-bits, shifted_none}
use Rattle.check_samples.proofs.cut_taken.Goals as goal
use Rattle.check_samples.proofs.cut_taken.Goals.{then-rows-cols-lt16, else-rows-cols-lt16}

-- std's `min` of two numbers
least-is : (a b : ℕ) → ord_min nat_cmp a b ≡ min a b
least-is a b = grind (arith, common_steps)

pub returns : goal.returns
unfolding plane_in_full
returns c =
    let a = c.args in
    let p = a.plane.now in
    let rows : c.min-rows.result ≡ min 8 (p.height - a.y) = c.min-rows.ensures ∙ least-is 8 (p.height - a.y) in
    let cols : c.min-cols.result ≡ min 8 (p.width - a.x) = c.min-cols.ensures ∙ least-is 8 (p.width - a.x) in
    let cut : c.if-rows-cols-lt16.bits ≡ or_rows p.samples.now p.width a.y a.x c.min-cols.result c.min-rows.result =
    elim c.if-rows-cols-lt16.branch [
      | then-rows-cols-lt16 w ↦ w.bits-is ∙ w.block_bits-bits.ensures
      | else-rows-cols-lt16 w ↦
          let eight_rows : c.min-rows.result ≡ 8 = omega arith in
          let eight_cols : c.min-cols.result ≡ 8 = omega arith in
          rw (eight_rows, eight_cols) (w.bits-is ∙ w.block_bits-bits-else-rows-cols-lt16.ensures)
    ] in
    shifted_none c.if-rows-cols-lt16.bits a.depth ∙ rw (cut, rows, cols) (cut-bits p.samples.now p.width p.height a.depth a.y a.x c.requires.corner_in.1 c.requires.corner_in.0)
