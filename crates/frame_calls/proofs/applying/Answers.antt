-- `frame_calls::applying` meets its contract.
use Rattle.std.proofs.Common.{rules}
use Rattle.cdef_pairs.specs.KindLaws.{paired}
use Rattle.cdef_spec.specs.AnswerLaws.{zero-so}
use Rattle.frame_calls.specs.CallLaws.{applying-refuses, applying-listed, applying-taken, applying-long, applying-does}
use Rattle.frame_calls.proofs.applying.Goals as goal

pub returns-in_err-input : goal.returns-in_err-input
returns-in_err-input g c = applying-refuses _ _ _ _ _ _ _ _ c.in_err-input.field-0.0 _ (search rules) c.in_err-input.ensures.refusal

pub apply_plane-requires : goal.apply_plane-requires
apply_plane-requires g c =
    let z = zero-so c.in_ok-input.input _ c.in_ok-input.ensures.refusal in
    rw c.in_ok-input.ensures.input.picture (record {
      paired = paired _ _ _ g.met.P.Pairs.laws c.args.pairs.now _ (applying-listed _ _ _ _ _ (g.P.Pairs.pairs c.args.pairs.now) _ z) (applying-taken _ _ _ _ _ (g.P.Pairs.pairs c.args.pairs.now) _ z);
      full = applying-long _ _ _ _ _ (g.P.Pairs.pairs c.args.pairs.now) _ z;
    })

pub returns : goal.returns
returns g c =
    let z = zero-so c.in_ok-input.input _ c.in_ok-input.ensures.refusal in
    let made = c.in_ok-input.ensures.input in
    applying-does _ _ _ _ _ _ _ z _ _ (rw (made.picture, made.damping, made.samples) at c.apply_plane.ensures)
