-- What is done between trying, applying and measuring. Definitions only.
use Rattle.std.specs.Prelude.{Bool, true, cond, List, ℕ, leb, eqb, length}
use Rattle.cdef_spec.specs.declared.UnitPair.{UnitPair}
use Rattle.cdef_spec.specs.Words.{every}
use Rattle.cdef_spec.specs.Document01.{is_trial_pair}
use Rattle.cdef_spec.specs.Picture.{pair_at}

-- each unit's pair is one of the twelve; a list of more than 4,096 pairs is not read and is left for applying to reject
unfoldable pub trial_pairs : List UnitPair → Bool
trial_pairs ps = cond (leb (length ps) 4096) (every (length ps) (λ u. is_trial_pair (pair_at ps u))) true

-- the destination once the snapshot is copied into it; one of another length is left for applying to reject
unfoldable pub copied : List ℕ → List ℕ → List ℕ
copied snapshot dst = cond (eqb (length dst) (length snapshot)) snapshot dst
