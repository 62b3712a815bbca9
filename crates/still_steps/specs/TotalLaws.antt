-- Totals compared.
use mir.Val.{bool_byte}
use Rattle.std.specs.Prelude.{◌≡◌, refl, Bool, true, false, cond, not, eqb, List, ℕ, zero, suc, ◌+◌, ◌*◌, ◌≤◌, get_or, ℤ, pos, negsuc}
use Rattle.std.proofs.Math.Decide.{ℕ_discrete}
use Rattle.std.proofs.Common.{ap, add-one, arith, eq-eqb, ne_eqb}
use Rattle.still_lists.specs.Lists.{same_total, differ}

pub same_is : (a b : ℤ) → a ≡ b → same_total a b ≡ true
unfolding same_total
same_is a b e = rw e (go b)
  where
    go : (b : ℤ) → same_total b b ≡ true
    go (pos n) = eq-eqb n n refl
    go (negsuc n) = eq-eqb n n refl

pub differ_none : (tried measured : List ℤ) (t : ℕ) → differ tried measured t 0 ≡ 0
unfolding differ
differ_none tried measured t = refl

pub differ_more : (tried measured : List ℤ) (t u n d : ℕ) → n ≡ differ tried measured t u → d ≡ cond (same_total (get_or tried (12 * u + t) (pos 0)) (get_or measured u (pos 0))) 0 1 → n + d ≡ differ tried measured t (u + 1)
unfolding differ
differ_more tried measured t u n d e f = rw (add-one u, ← e, ← f) refl

pub differ_low : (tried measured : List ℤ) (t u : ℕ) → differ tried measured t u ≤ u
unfolding differ
differ_low tried measured t zero = omega arith
differ_low tried measured t (suc u) = go (same_total (get_or tried (12 * u + t) (pos 0)) (get_or measured u (pos 0))) (differ_low tried measured t u)
  where
    go : (b : Bool) → differ tried measured t u ≤ u → differ tried measured t u + cond b 0 1 ≤ suc u
    go true h = omega arith
    go false h = omega arith

pub other_is : (a b : ℤ) → (a ≡ b → ⊥) → same_total a b ≡ false
unfolding same_total
other_is (pos a) (pos b) f = ne_eqb a b (λ e. f (ap pos e))
other_is (negsuc a) (negsuc b) f = ne_eqb a b (λ e. f (ap negsuc e))
other_is (pos a) (negsuc b) f = refl
other_is (negsuc a) (pos b) f = refl

-- two totals, and numbers that are the same where the totals are
pub bits_same : (a b : ℤ) (m n : ℕ) → (m ≡ n → a ≡ b) → (a ≡ b → m ≡ n) → not (eqb m n) ≡ not (same_total a b)
bits_same a b m n f g = go (ℕ_discrete m n)
  where
    go : Dec (m ≡ n) → not (eqb m n) ≡ not (same_total a b)
    go (yes e) = rw (eq-eqb m n e, same_is a b (f e)) refl
    go (no h) = rw (ne_eqb m n h, other_is a b (λ e. h (g e))) refl

-- one is counted where two differ
pub one_where : (d : ℕ) (differ same : Bool) → d ≡ bool_byte differ → differ ≡ not same → d ≡ cond same 0 1
one_where d differ true e f = rw f at e
one_where d differ false e f = rw f at e

-- a unit differs once at most
pub one_at_most : (d : ℕ) (b : Bool) → d ≡ cond b 0 1 → d ≤ 1
one_at_most d true e = omega arith
one_at_most d false e = omega arith
