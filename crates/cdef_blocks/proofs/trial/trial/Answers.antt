-- `cdef_blocks::trial::trial` meets its contract.
use Rattle.std.proofs.Common.{◌≡◌, ◌∙◌, true, [], ◌∷◌, arith}
use Rattle.cdef_spec.specs.Answers.{code_of, error_code, read_done}
use Rattle.cdef_spec.specs.AnswerLaws.{coded}
use Rattle.cdef_spec.specs.Lent.{plane_in, plane_in_full}
use Rattle.cdef_spec.specs.Questions.{ask, first_no, widened_taken}
use Rattle.check_block.specs.TrialPartLaws.{trial-facts, trial-refused, trial-samples, trial-done}
use Rattle.check_block.specs.WindowLaws.{window-asked, widened-so, marked-so}
use Rattle.cdef_blocks.proofs.Told.{told}
use Rattle.cdef_blocks.proofs.Passed.{trial-passes}
use Rattle.cdef_blocks.proofs.trial.trial.Goals as goal

pub returns-in_err-full : goal.returns-in_err-full
unfolding code_of
returns-in_err-full c =
    let a = c.args in
    rw (told c.from_residual.result _ c.from_residual.ensures.1) (trial-refused (plane_in a.plane.now) a.block a.way a.dir a.damping a.depth a.out.now _ c.in_err-full.ensures.first_no (coded _))

pub window-win-requires : goal.window-win-requires
unfolding plane_in_full
window-win-requires c =
    let a = c.args in
    let p = plane_in_full c.in_ok-full.full in
    let f = trial-facts p a.block a.way a.dir a.damping a.depth a.out.now (trial-passes _ _ c.in_ok-full.ensures.same a.block a.way a.dir a.damping a.depth a.out.now c.in_ok-full.ensures.first_no) in
    record { x-in = f.block.x-in; y-in = f.block.y-in; bw = f.block.bw; bh = f.block.bh }

pub window_no-requires : goal.window_no-requires
window_no-requires c =
    let a = c.args in
    let p = plane_in_full c.in_ok-full.full in
    (trial-facts p a.block a.way a.dir a.damping a.depth a.out.now (trial-passes _ _ c.in_ok-full.ensures.same a.block a.way a.dir a.damping a.depth a.out.now c.in_ok-full.ensures.first_no)).plane.flat

pub returns-in_err-window_no : goal.returns-in_err-window_no
unfolding code_of
returns-in_err-window_no c =
    let a = c.args in
    let p = plane_in_full c.in_ok-full.full in
    let z = trial-passes _ _ c.in_ok-full.ensures.same a.block a.way a.dir a.damping a.depth a.out.now c.in_ok-full.ensures.first_no in
    let f = trial-facts p a.block a.way a.dir a.damping a.depth a.out.now z in
    let nine = window-asked p a.block a.depth f.plane f.block _ _ c.window-win.ensures c.in_err-window_no.ensures in
    rw (← c.in_ok-full.ensures.same, told c.from_residual-in_err-window_no.result _ c.from_residual-in_err-window_no.ensures.1)
    (trial-samples p a.block a.way a.dir a.damping a.depth a.out.now z _ nine (coded _))

pub trial_window-requires : goal.trial_window-requires
unfolding code_of
trial_window-requires c =
    let a = c.args in
    let p = plane_in_full c.in_ok-full.full in
    let f = trial-facts p a.block a.way a.dir a.damping a.depth a.out.now (trial-passes _ _ c.in_ok-full.ensures.same a.block a.way a.dir a.damping a.depth a.out.now c.in_ok-full.ensures.first_no) in
    let b = f.block in
    let taken = widened-so p a.block a.depth f.plane b _ c.window-win.ensures c.in_ok-window_no.ensures in
    (f.long, b.bw, b.bh, rw c.window-win.ensures (marked-so p a.block a.depth f.plane b taken))

pub invariant_of-params : goal.invariant_of-params
unfolding code_of
invariant_of-params c =
    let a = c.args in
    let p = plane_in_full c.in_ok-full.full in
    let f = trial-facts p a.block a.way a.dir a.damping a.depth a.out.now (trial-passes _ _ c.in_ok-full.ensures.same a.block a.way a.dir a.damping a.depth a.out.now c.in_ok-full.ensures.first_no) in
    record { taken = (f.dir-low, f.damping-low); deep = (f.plane.deep, f.plane.flat) }

pub returns : goal.returns
unfolding code_of read_done
returns c =
    let a = c.args in
    let p = plane_in_full c.in_ok-full.full in
    let z = trial-passes _ _ c.in_ok-full.ensures.same a.block a.way a.dir a.damping a.depth a.out.now c.in_ok-full.ensures.first_no in
    let f = trial-facts p a.block a.way a.dir a.damping a.depth a.out.now z in
    let taken = widened-so p a.block a.depth f.plane f.block _ c.window-win.ensures c.in_ok-window_no.ensures in
    rw (← c.in_ok-full.ensures.same) (trial-done p a.block a.way a.dir a.damping a.depth a.out.now z taken _ (c.trial_window.ensures p c.window-win.ensures))
