-- `direction_block::cdef_direction` meets its contract.
use mathlib.Core.Path.{ap, ◌∙◌}
use Rattle.cdef_spec.specs.Lent.{plane_in_full}
use Rattle.cdef_spec.specs.Document01.{direction_input, block_direction, block_variance}
use Rattle.cdef_spec.specs.declared.Found.{Found}
use Rattle.direction_block.specs.Found.{found_of}
use Rattle.direction_block.specs.FoundLaws.{costs-fit, found-are}
use Rattle.direction_levels.specs.LevelLaws.{input-small}
use Rattle.direction_block.proofs.cdef_direction.Goals as goal

pub cdef_direction_cost-requires : goal.cdef_direction_cost-requires
cdef_direction_cost-requires c = let a = c.args in
    let q = c.requires in
    unfold plane_in_full in rw c.cdef_direction_partials.ensures (costs-fit (direction_input (plane_in_full a.plane.now) a.depth a.y a.x) (input-small a.plane.now.samples.now a.plane.now.width a.plane.now.height a.depth a.y a.x q.y-in q.x-in q.low q.depth_low))

pub returns : goal.returns
returns c = unfold block_direction block_variance in let e = c.cdef_direction_cost.ensures ∙ ap found_of c.cdef_direction_partials.ensures ∙ found-are _ in
    record { direction_value = ap (λ (f : Found). f.direction) e; variance_value = ap (λ (f : Found). f.variance) e }
