-- `plane_taps::plain::limit_two` meets its contract.
use Rattle.std.proofs.Common.{◌∙◌}
use Rattle.plane_taps.specs.PlainLaws.{limit-is, limit-low}
use Rattle.plane_taps.proofs.plain.limit_two.Goals as goal

pub returns : goal.returns
returns g c = let e = c.further-3.ensures ∙ rw (c.further.ensures, c.further-2.ensures) (limit-is _ c.args.p c.args.q) in
    (e, rw e (limit-low _ _ _ c.requires.0 c.requires.1))
