-- The direction pass from its checks: what its core requires where they pass, and the outcome either way. The core is given a plane Q that is p with its samples counted.
use Rattle.std.specs.Prelude.{◌≡◌, refl, List, ℕ, ◌*◌, ◌/◌, ◌%◌, Ok, Err, Result as RustResult}
use Rattle.std.proofs.Common.{ne_eqb, eq-eqb}
use Rattle.cdef_spec.specs.declared.Refusal.{Refusal}
use Rattle.cdef_spec.specs.Words.{table}
use Rattle.cdef_spec.specs.Document01.{Plane, block_direction, block_variance}
use Rattle.cdef_spec.specs.Answers.{read_done, code_of}
use Rattle.cdef_spec.specs.AnswerLaws.{not-zero, read_done-err}
use Rattle.cdef_spec.specs.FrameCalls.{direction_pass_no, direction_pass_outcome}
use Rattle.check_picture.specs.RefusalLaws.{done-is}
use Rattle.check_pass.specs.PassLaws.{PassFacts, pass-facts}

module _ (p : Plane) (depth : ℕ) (dirs vars : List ℕ) where
  pub pass-refuses : (B : Type 0) (r : Refusal) (x : RustResult (Unit {0}) Refusal) → x ≡ Err r → code_of {A = B} (Err r) ≡ direction_pass_no p depth dirs vars
      → direction_pass_outcome p depth dirs vars ≡ record { answer = read_done x; dirs = dirs; vars = vars }
  unfolding direction_pass_outcome
  pass-refuses B r x e h = rw (e, read_done-err B r _ h, ne_eqb _ 0 (not-zero B r _ h)) refl

  module _ (z : direction_pass_no p depth dirs vars ≡ 0) (Q : Plane) (s : Q ≡ p) where
    pub pass-ready : PassFacts Q depth dirs vars
    pass-ready = rw s (pass-facts p depth dirs vars z)

    pub pass-does : (done : Unit {0}) (l m : List ℕ)
        → l ≡ table (Q.height / 8 * (Q.width / 8)) (λ b. block_direction Q depth (b / (Q.width / 8) * 8) (b % (Q.width / 8) * 8))
        → m ≡ table (Q.height / 8 * (Q.width / 8)) (λ b. block_variance Q depth (b / (Q.width / 8) * 8) (b % (Q.width / 8) * 8))
        → direction_pass_outcome p depth dirs vars ≡ record { answer = read_done (Ok done); dirs = l; vars = m }
    unfolding direction_pass_outcome
    pass-does done l m e f = rw (e, f, s, done-is done _ z, eq-eqb _ 0 z) refl
