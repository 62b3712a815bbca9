-- `still_lists::Counts::of` meets its contract.
use Rattle.std.proofs.Common.{arith}
use Rattle.still_pgm.specs.SizesLaws.{taken}
use Rattle.still_lists.specs.ListsLaws.{counted}
use Rattle.still_lists.proofs.Counts.of.Goals as goal

pub padded_side-requires : goal.padded_side-requires
padded_side-requires c = (taken _ _ c.requires).width-high

pub padded_side-requires-2 : goal.padded_side-requires-2
padded_side-requires-2 c = (taken _ _ c.requires).height-high

pub invariant_of-result : goal.invariant_of-result
invariant_of-result c =
    let t = taken _ _ c.requires in
    record { sides = (omega (arith, c.padded_side.ensures, t.width-high), omega (arith, c.padded_side-2.ensures, t.height-high)) }

pub returns : goal.returns
returns c = counted _ _ (taken _ _ c.requires) _ c.padded_side.ensures c.padded_side-2.ensures
