-- `plane_block::filter_block` meets its contract.
use Rattle.std.proofs.Common.{◌≡◌, sym, ◌∙◌, arith, ℕ, ◌-◌}
use Rattle.std.specs.Prelude.{min}
use Rattle.cdef_spec.specs.Lent.{plane_in_full}
use Rattle.filter_window.specs.WindowLaws.{window-held}
use Rattle.plane_block.specs.Inside.{Inner}
use Rattle.plane_block.specs.PlaneLaws.{inner-is}
use Rattle.plane_block.proofs.filter_block.Goals as goal

-- a block inside a plane is not cropped
cols-whole : {w h x y bw bh : ℕ} → Inner w h x y bw bh → min bw (w - x) ≡ bw
cols-whole n = omega (arith, n.right)

rows-whole : {w h x y bw bh : ℕ} → Inner w h x y bw bh → min bh (h - y) ≡ bh
rows-whole n = omega (arith, n.bottom)

pub filter_inside-requires : goal.filter_inside-requires
filter_inside-requires c =
    let n = inner-is _ _ _ _ _ _ (sym c.inside.ensures ∙ c.if-inside.true) in
    let r = c.requires.rows_fit in
    record { begins = c.requires.begins; rows_fit = (r.0, rw (rows-whole n) at r.1, r.2, r.3, n) }

pub returns-then-inside : goal.returns-then-inside
returns-then-inside c =
    let n = inner-is _ _ _ _ _ _ (sym c.inside.ensures ∙ c.if-inside.true) in
    c.filter_inside.ensures ∙ rw (cols-whole n, rows-whole n)

pub cdef_filter_block-requires : goal.cdef_filter_block-requires
unfolding plane_in_full
cdef_filter_block-requires c =
    let r = c.requires.begins in
    record { begins = (r.0, window-held _ (λ k. omega (arith, r.1.all k)) _, r.2); rows_fit = (c.requires.rows_fit.0, c.requires.rows_fit.1) }
