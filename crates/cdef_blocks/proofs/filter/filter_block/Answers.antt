-- `cdef_blocks::filter::filter_block` meets its contract.
use Rattle.std.proofs.Common.{◌≡◌, ◌∙◌, true, [], ◌∷◌, arith}
use Rattle.cdef_spec.specs.Answers.{code_of, error_code, read_done}
use Rattle.cdef_spec.specs.AnswerLaws.{coded}
use Rattle.cdef_spec.specs.Lent.{plane_in, plane_in_full}
use Rattle.cdef_spec.specs.Questions.{ask, first_no, widened_taken}
use Rattle.filter_block.specs.StoreLaws.{stored-block}
use Rattle.check_block.specs.PartLaws.{filter-facts, filter-refused, filter-samples, filter-done}
use Rattle.check_block.specs.WindowLaws.{window-asked, widened-so, held-so}
use Rattle.cdef_blocks.proofs.Told.{told}
use Rattle.cdef_blocks.proofs.Passed.{filter-passes}
use Rattle.cdef_blocks.proofs.filter.filter_block.Goals as goal

pub returns-in_err-full : goal.returns-in_err-full
unfolding code_of
returns-in_err-full c =
    let a = c.args in
    rw (told c.from_residual.result _ c.from_residual.ensures.1) (filter-refused (plane_in a.plane.now) a.block a.params a.y0 a.dst.now _ c.in_err-full.ensures.first_no (coded _))

pub window-win-requires : goal.window-win-requires
unfolding plane_in_full
window-win-requires c =
    let a = c.args in
    let p = plane_in_full c.in_ok-full.full in
    let f = filter-facts p a.block a.params a.y0 a.dst.now (filter-passes c.in_ok-full.full _ c.in_ok-full.ensures.same a.block a.params a.y0 a.dst.now c.in_ok-full.ensures.first_no) in
    record { x-in = f.block.x-in; y-in = f.block.y-in; bw = f.block.bw; bh = f.block.bh }

pub window_no-requires : goal.window_no-requires
window_no-requires c =
    let a = c.args in
    let p = plane_in_full c.in_ok-full.full in
    (filter-facts p a.block a.params a.y0 a.dst.now (filter-passes c.in_ok-full.full _ c.in_ok-full.ensures.same a.block a.params a.y0 a.dst.now c.in_ok-full.ensures.first_no)).plane.flat

pub returns-in_err-window_no : goal.returns-in_err-window_no
unfolding code_of
returns-in_err-window_no c =
    let a = c.args in
    let p = plane_in_full c.in_ok-full.full in
    let z = filter-passes c.in_ok-full.full _ c.in_ok-full.ensures.same a.block a.params a.y0 a.dst.now c.in_ok-full.ensures.first_no in
    let f = filter-facts p a.block a.params a.y0 a.dst.now z in
    let nine = window-asked p a.block a.params.depth f.plane f.block _ _ c.window-win.ensures c.in_err-window_no.ensures in
    rw (← c.in_ok-full.ensures.same, told c.from_residual-in_err-window_no.result _ c.from_residual-in_err-window_no.ensures.1)
    (filter-samples p a.block a.params a.y0 a.dst.now z _ nine (coded _))

pub filter_window-requires : goal.filter_window-requires
unfolding code_of plane_in_full
filter_window-requires c =
    let a = c.args in
    let p = plane_in_full c.in_ok-full.full in
    let f = filter-facts p a.block a.params a.y0 a.dst.now (filter-passes c.in_ok-full.full _ c.in_ok-full.ensures.same a.block a.params a.y0 a.dst.now c.in_ok-full.ensures.first_no) in
    let b = f.block in
    let taken = widened-so p a.block a.params.depth f.plane b _ c.window-win.ensures c.in_ok-window_no.ensures in
    record {
      begins = (b.x-in, b.y-in, f.plane.wide, f.plane.high, b.bw, b.bh);
      rows_fit = (f.start, f.room);
      held = (rw c.window-win.ensures (held-so p a.block a.params.depth f.plane b taken), f.usable);
    }

pub returns : goal.returns
unfolding code_of read_done plane_in_full
returns c =
    let a = c.args in
    let p = plane_in_full c.in_ok-full.full in
    let z = filter-passes c.in_ok-full.full _ c.in_ok-full.ensures.same a.block a.params a.y0 a.dst.now c.in_ok-full.ensures.first_no in
    let f = filter-facts p a.block a.params a.y0 a.dst.now z in
    let b = f.block in
    let taken = widened-so p a.block a.params.depth f.plane b _ c.window-win.ensures c.in_ok-window_no.ensures in
    rw (← c.in_ok-full.ensures.same) (filter-done p a.block a.params a.y0 a.dst.now z taken _
    (c.filter_window.ensures ∙ rw c.window-win.ensures
    (stored-block a.dst.now p.width p a.block a.params a.y0 _ _ f.start b.bh b.bw (omega arith) (omega arith) f.usable.dir (held-so p a.block a.params.depth f.plane b taken))))
