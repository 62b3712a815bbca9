-- `arith_strength::log2_floor` meets its contract.
use Rattle.std.proofs.Common.{◌≡◌, Option, None, Some, ℕ, ◌*◌, ◌^◌, ◌≤◌, ◌<◌, sym, ◌∙◌, arith}
use Rattle.std.specs.Option.{IfNone, IfSome, unwrap_or}
use native.Mathlib.Nat.{pow-suc}
use Rattle.cdef_spec.specs.Standard.{floor_log2}
use Rattle.cdef_spec.specs.LeafLaws.{floor_log2-is, floor_log2-zero}
use Rattle.arith_strength.proofs.log2_floor.Goals as goal

found : (v : ℕ) (o : Option ℕ) → IfNone o (v ≡ 0) → IfSome o (λ k. 2 ^ k ≤ v) → IfSome o (λ k. v < 2 * 2 ^ k) → IfSome o (λ k. k < 32) → unwrap_or o 0 ≡ floor_log2 v
found v None h p q b = rw h (sym floor_log2-zero)
found v (Some k) h p q b = sym (floor_log2-is v k (omega (arith, b)) p (omega (arith, pow-suc 2 k, q)))

pub returns : goal.returns
returns c = let e = c.checked_ilog2.ensures in c.unwrap_or.ensures ∙ found c.args.v _ e.none e.power_le e.next_power_gt e.bound
