-- `pass_one::one_block` meets its contract.
use native.Mathlib.Omega.{arith}
use Rattle.cdef_spec.specs.Lent.{plane_in_full}
use Rattle.pass_one.specs.PassLaws.{low-cut, filled-one, blocks-in}
use Rattle.pass_one.proofs.one_block.Goals as goal

pub overflow_mul-bx : goal.overflow_mul-bx
overflow_mul-bx c = omega (arith, c.requires.pass_in.1, c.args.plane.now.sides)

pub overflow_mul-by : goal.overflow_mul-by
overflow_mul-by c = omega (arith, c.requires.pass_in.2, c.args.plane.now.sides)

pub cdef_direction-f-requires : goal.cdef_direction-f-requires
cdef_direction-f-requires c = unfold plane_in_full in let q = c.requires.pass_in.0 in
    record {
      x-in = omega (arith, c.requires.pass_in.1);
      y-in = omega (arith, c.requires.pass_in.2);
      depth_low = q.depth_low;
      depth-high = q.depth-high;
      low = low-cut _ c.args.depth _ _ q.low;
    }

pub overflow_mul-at : goal.overflow_mul-at
overflow_mul-at c = omega (arith, blocks-in c.args.plane.now 0 c.args.by c.args.bx c.requires.pass_in.0 (omega arith) c.requires.pass_in.2)

pub overflow_add-at : goal.overflow_add-at
overflow_add-at c = omega (arith, blocks-in c.args.plane.now 0 c.args.by c.args.bx c.requires.pass_in.0 (omega arith) c.requires.pass_in.2)

pub bounds-dirs-at : goal.bounds-dirs-at
bounds-dirs-at c = omega (arith, blocks-in c.args.plane.now 0 c.args.by c.args.bx c.requires.pass_in.0 (omega arith) c.requires.pass_in.2)

pub offset_bounds-vars-at : goal.offset_bounds-vars-at
offset_bounds-vars-at c = omega (arith, blocks-in c.args.plane.now 0 c.args.by c.args.bx c.requires.pass_in.0 (omega arith) c.requires.pass_in.2)

pub bounds-vars-at : goal.bounds-vars-at
bounds-vars-at c = omega (arith, blocks-in c.args.plane.now 0 c.args.by c.args.bx c.requires.pass_in.0 (omega arith) c.requires.pass_in.2)

pub returns : goal.returns
unfolding plane_in_full
returns c =
    let b = blocks-in c.args.plane.now 0 c.args.by c.args.bx c.requires.pass_in.0 (omega arith) c.requires.pass_in.2 in
    filled-one _ _ _ _ _ _ c.requires.filled _ _ c.requires.pass_in.1 (omega (arith, b.0)) (omega (arith, b.1)) c.cdef_direction-f.ensures.direction_value c.cdef_direction-f.ensures.variance_value
