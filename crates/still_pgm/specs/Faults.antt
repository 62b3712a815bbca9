-- What is wrong with a file. Definitions only.
use Rattle.std.specs.Prelude.{ℕ, ◌*◌, cond, List, eqb, length, Option, Some, None, is_none}
use Rattle.still_pgm.specs.declared.header.Header.{Header}
use Rattle.still_pgm.specs.declared.format.Fault.{Fault}
use Rattle.still_pgm.specs.declared.format.Fault.TheVariants.{NoHeader, Maximum, Size, Length}
use Rattle.still_pgm.specs.Sizes.{depth_of, step_of, is_taken}

-- the first thing that is wrong with a header that n bytes follow
unfoldable pub fault_in : ℕ → Header → Option Fault
fault_in n h =
    cond (is_none (depth_of h.maximum)) (Some Maximum)
    (cond (is_taken h.width h.height)
    (cond (eqb n (h.width * h.height * step_of h.maximum)) None (Some Length))
    (Some Size))

-- the first thing that is wrong with a file, from its header and the bytes behind it
unfoldable pub fault_of : Option (Header × List ℕ) → Option Fault
fault_of None = Some NoHeader
fault_of (Some (h, samples)) = fault_in (length samples) h
