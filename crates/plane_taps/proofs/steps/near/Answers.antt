-- `plane_taps::steps::near` meets its contract.
use Rattle.std.proofs.Common.{◌≡◌, Bool, true, false, cond, refl}
use mir.Val.{bool_byte}
use lib.Dec.{leb}
use Rattle.plane_taps.specs.StepLaws.{near-is}
use Rattle.plane_taps.proofs.steps.near.Goals as goal

cast-is : (b : Bool) → bool_byte b ≡ cond b 1 0
cast-is true = refl
cast-is false = refl

pub returns : goal.returns
returns c = let d = c.args.dir in
    near-is c.args.w c.args.p _ c.requires.1 c.requires.2 d c.requires.0 (rw (cast-is (leb 1 d), cast-is (leb 4 d), cast-is (leb d 4)))
