-- A frame call's damping as C passes it (RULES, Damping): a number and a flag. OtherFlagRejected is stated here and proved in ChoiceLaws.
use Rattle.std.specs.Prelude.{◌≡◌, false, cond, ℕ, ◌≤◌, eqb, Option, Some, None}
use Rattle.cdef_spec.specs.declared.SignalledDamping.{SignalledDamping}
use Rattle.cdef_spec.specs.Document01.{in_force}
use Rattle.cdef_spec.specs.Questions.{signalled_taken}

-- flag 0: the number is the signalled damping; flag 1: none is stated, whatever the number; any other flag: the signalled damping 0, which is out of range
unfoldable pub choice_of : ℕ → ℕ → Option SignalledDamping
choice_of damping unstated =
    cond (eqb unstated 0) (Some (record { 0 = damping }))
    (cond (eqb unstated 1) None (Some (record { 0 = 0 })))

-- a flag above 1 fails question 8, whatever the number
abbrev pub OtherFlagRejected : Type 0
OtherFlagRejected = (damping unstated : ℕ) → 2 ≤ unstated → signalled_taken (in_force (choice_of damping unstated)) ≡ false
