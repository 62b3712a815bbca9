-- Question 9 of the calls that gather a window.
use Rattle.std.specs.Prelude.{◌≡◌, true, List, [], ◌∷◌, ℕ, get_or}
use Rattle.std.proofs.Common.{sym, ◌∙◌, arith}
use Rattle.cdef_spec.specs.declared.Block.{Block}
use Rattle.cdef_spec.specs.Words.{every}
use Rattle.cdef_spec.specs.Document01.{Plane}
use Rattle.cdef_spec.specs.Questions.{ask, first_no, sample_or_mark, widened_taken}
use Rattle.cdef_spec.specs.QuestionLaws.{first-yes}
use Rattle.arith_sample.specs.Bounds.{Held, Marked}
use Rattle.arith_sample.specs.BoundLaws.{marked-held}
use Rattle.arith_sample.specs.Upto.{upto}
use Rattle.filter_window.specs.Window.{window_at}
use Rattle.filter_window.specs.Spans.{InPlane}
use Rattle.filter_block.specs.TakenLaws.{window-taken-is, window-marked}
use Rattle.check_block.specs.PartLaws.{PlaneFacts, BlockFacts}

module _ (p : Plane) (b : Block) (depth : ℕ) (f : PlaneFacts p depth) (g : BlockFacts p b) where
  pub in-plane : InPlane p.samples p.width p.height b
  in-plane = record { full = f.full_is; wide = f.wide; high = f.high; x-in = g.x-in; y-in = g.y-in; bw = g.bw; bh = g.bh }

  -- the window's code is question 9's
  pub window-asked : (n : ℕ) (w : List ℕ) → w ≡ upto (window_at p b) 144 → n ≡ first_no (ask 9 (every 144 (λ k. sample_or_mark depth (get_or w k 0))) ∷ []) → n ≡ first_no (ask 9 (widened_taken p depth b) ∷ [])
  window-asked n w e h = rw (← window-taken-is p b depth g.x-in g.y-in g.bw g.bh, ← e) h

  -- where it passes, the samples are in range, and the window's entries are bounded
  pub widened-so : (w : List ℕ) → w ≡ upto (window_at p b) 144 → 0 ≡ first_no (ask 9 (every 144 (λ k. sample_or_mark depth (get_or w k 0))) ∷ []) → widened_taken p depth b ≡ true
  widened-so w e h = (first-yes _ _ (λ e. omega arith) (sym (window-asked 0 w e h))).0

  pub marked-so : widened_taken p depth b ≡ true → Marked (upto (window_at p b) 144)
  marked-so t = window-marked p b depth g.x-in g.y-in g.bw g.bh f.flat (window-taken-is p b depth g.x-in g.y-in g.bw g.bh ∙ t)

  pub held-so : widened_taken p depth b ≡ true → Held (upto (window_at p b) 144)
  held-so t = marked-held (marked-so t)
