-- Sums of integers in another order, and weights over sums.
use Rattle.std.specs.Prelude.{◌≡◌, ℕ, zero, suc, ℤ, pos, ◌+ℤ◌, ◌*ℤ◌}
use Rattle.std.proofs.Common.{sym, ap, ◌∙◌}
use Rattle.std.proofs.Math.IntN.{+ℤ_assoc, +ℤ_comm, +ℤ_idl, +ℤ_idr, zero-*ℤ, suc_ℤ-*ℤ}

-- (a + b) + (c + d) with b and c exchanged
pub add-cross : (a b c d : ℤ) → (a +ℤ b) +ℤ (c +ℤ d) ≡ (a +ℤ c) +ℤ (b +ℤ d)
add-cross a b c d =
    +ℤ_assoc a b (c +ℤ d)
    ∙ ap (λ (z : ℤ). a +ℤ z) (sym (+ℤ_assoc b c d) ∙ ap (λ (z : ℤ). z +ℤ d) (+ℤ_comm b c) ∙ +ℤ_assoc c b d)
    ∙ sym (+ℤ_assoc a c (b +ℤ d))

pub scale-add : (k : ℕ) (a b : ℤ) → pos k *ℤ (a +ℤ b) ≡ pos k *ℤ a +ℤ pos k *ℤ b
scale-add zero a b = zero-*ℤ (a +ℤ b) ∙ sym (ap (λ (z : ℤ). z +ℤ pos 0 *ℤ b) (zero-*ℤ a) ∙ +ℤ_idl (pos 0 *ℤ b) ∙ zero-*ℤ b)
scale-add (suc k) a b =
    suc_ℤ-*ℤ (pos k) (a +ℤ b)
    ∙ ap (λ (z : ℤ). z +ℤ (a +ℤ b)) (scale-add k a b)
    ∙ add-cross (pos k *ℤ a) (pos k *ℤ b) a b
    ∙ sym (ap (λ (z : ℤ). z +ℤ pos (suc k) *ℤ b) (suc_ℤ-*ℤ (pos k) a) ∙ ap (λ (z : ℤ). (pos k *ℤ a +ℤ a) +ℤ z) (suc_ℤ-*ℤ (pos k) b))

-- four in a row, and a 0 after them
pub four : (a b c d : ℤ) → a +ℤ (b +ℤ (c +ℤ (d +ℤ pos 0))) ≡ (a +ℤ b) +ℤ (c +ℤ d)
four a b c d = ap (λ (z : ℤ). a +ℤ (b +ℤ (c +ℤ z))) (+ℤ_idr d) ∙ sym (+ℤ_assoc a b (c +ℤ d))

-- eight, as the two directions' near and far taps
pub eight : (a b c d e f g h : ℤ) → a +ℤ (b +ℤ (c +ℤ (d +ℤ (e +ℤ (f +ℤ (g +ℤ (h +ℤ pos 0))))))) ≡ ((a +ℤ b) +ℤ (e +ℤ f)) +ℤ ((c +ℤ d) +ℤ (g +ℤ h))
eight a b c d e f g h =
    let ef : ℤ = (e +ℤ f) +ℤ (g +ℤ h) in
    ap (λ (z : ℤ). a +ℤ (b +ℤ (c +ℤ (d +ℤ z)))) (four e f g h)
    ∙ ap (λ (z : ℤ). a +ℤ (b +ℤ z)) (sym (+ℤ_assoc c d ef))
    ∙ sym (+ℤ_assoc a b ((c +ℤ d) +ℤ ef))
    ∙ sym (+ℤ_assoc (a +ℤ b) (c +ℤ d) ef)
    ∙ add-cross (a +ℤ b) (c +ℤ d) (e +ℤ f) (g +ℤ h)
