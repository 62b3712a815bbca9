-- The place of a refusal in its enum, counted from 1, is its error code.
use Rattle.std.proofs.Common.{◌≡◌, refl, ◌+◌}
use denote.Enum.Declared.{tag_of}
use Rattle.cdef_spec.specs.contracts.Refusal.{the_type}
use Rattle.cdef_spec.specs.declared.Refusal.{Refusal}
use Rattle.cdef_spec.specs.declared.Refusal.TheVariants.{Depth, Sides, Subsampling, PlaneLength, Position, Destination, Lengths, Values, Samples}
use Rattle.cdef_spec.specs.Answers.{error_code}
use Rattle.cdef_spec.proofs.codes.U8FromRefusal.from.Goals as goal

placed : (r : Refusal) → tag_of the_type r + 1 ≡ error_code r
unfolding error_code
placed Depth = refl
placed Sides = refl
placed Subsampling = refl
placed PlaneLength = refl
placed Position = refl
placed Destination = refl
placed Lengths = refl
placed Values = refl
placed Samples = refl

pub returns : goal.returns
returns c = placed c.args.refusal
