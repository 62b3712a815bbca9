-- `plane_fours::rows` meets its contract.
use Rattle.std.proofs.Common.{◌≡◌, ℕ, ◌+◌, ◌*◌, List, ◌∙◌}
use Rattle.arith_sample.specs.Upto.{upto}
use Rattle.cdef_spec.specs.LoopForm.{put_block}
use Rattle.filter_rows.specs.Sums.{InRange}
use Rattle.filter_rows.specs.declared.Taps.{Taps}
use Rattle.filter_rows.specs.declared.Strength.{Strength}
use Rattle.filter_kernel.specs.Kernel.{kernel_at}
use Rattle.plane_taps.specs.Steps.{taps_in}
use Rattle.plane_taps.specs.Plain.{AllLow}
use Rattle.plane_rows.specs.Rows.{placed_rows, inside_tap}
use Rattle.plane_fours.specs.Fours.{four_at}
use Rattle.plane_fours.specs.FourStoreLaws.{four-inside}
use Rattle.plane_fours.proofs.rows.Goals as goal

glue : (l d last v : List ℕ) (low : AllLow l) (w at to : ℕ) (t u : Taps) (f g : Strength) → InRange f → InRange g → t ≡ u → v ≡ upto (λ (j : ℕ). kernel_at l (four_at w at j) t f g) 16 → last ≡ placed_rows d w to v 4 4 → (y x : ℕ) → to ≡ y * w + x → last ≡ put_block d w (inside_tap l w at u f g y x) y x 4 4
glue l d last v low w at to t u f g rf rg et ev h y x e = h ∙ four-inside l low w at u f g rf rg d v to y x e (ev ∙ rw et)

pub four-requires : goal.four-requires
four-requires c = let r = c.requires.all_low in (rw c.taps-t.ensures c.requires.around.0, r.0, r.1, r.3, r.4)

pub returns : goal.returns
returns c = let a = c.args in
    let r = c.requires.all_low in
    record { block = glue a.src.now _ _ _ r.0 a.w a.at a.to _ (taps_in a.w a.dir) _ _ r.3 r.4 c.taps-t.ensures c.four.ensures c.store.ensures }
