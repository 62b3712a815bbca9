-- `nearest_whole` is the one whole number nearest to the square root, and `root_bits` the pattern of a number that is not subnormal.
use Rattle.std.specs.Prelude.{◌≡◌, refl, ℕ, zero, suc, ◌+◌, ◌-◌, ◌*◌, ◌/◌, ◌%◌, ◌^◌, ◌≤◌, ◌<◌, Bool, true, false, not, cond, T, ltb}
use Rattle.std.proofs.Common.{sym, ap, ◌∙◌, subst, inl, inr, le_trans, le_of_eq, lt_of_lt_of_le, lt_of_le_of_lt, add_assoc, mul-add, add-mul, le-add_right, mul-le-mul_left, mul-le-mul_right, two-mul, arith, leb→le, ltb→lt, nltb→le, lit<}
use Rattle.std.proofs.Math.Nat.{pow-succ'}
use Rattle.std.proofs.Math.Dec.{nleb→lt}
use Rattle.cdef_spec.specs.Root.{fits_bit, bit_root, up_or_not, nearest_whole, root_bits}
use Rattle.arith_root.specs.RootWords.{NearestWhole}
use Rattle.arith_root.specs.NewtonLaws.{below_or_not}

-- ---- there is one at most
-- n below n': M ≤ n² + n ≤ n'² - n' < M
apart : (M n n' : ℕ) → NearestWhole M n → NearestWhole M n' → n < n' → ⊥
apart M n n' p q l =
    let l' : n + 1 ≤ n' = omega arith in
    let x : (n + 1) * n' ≤ n' * n' = mul-le-mul_right n' l' in
    let y : n * (n + 1) ≤ n * n' = mul-le-mul_left n l' in
    let x' : n * n' + 1 * n' ≤ n' * n' = le_trans (le_of_eq (sym (add-mul n 1 n'))) x in
    let y' : n * n + n * 1 ≤ n * n' = le_trans (le_of_eq (sym (mul-add n n 1))) y in
    let a : n' * n' < M + n' = q.above in
    let b : M ≤ n * n + n = p.below in
    omega arith

pub one-nearest : (M n n' : ℕ) → NearestWhole M n → NearestWhole M n' → n ≡ n'
one-nearest M n n' p q =
    elim (below_or_not n n') [
      | inl l ↦ absurd (apart M n n' p q l)
      | inr h ↦ elim (below_or_not n' n) [ inl l ↦ absurd (apart M n' n q p l) | inr g ↦ omega arith ]
    ]

-- ---- and `nearest_whole` is one
abbrev Whole : ℕ → ℕ → Type 0
Whole M r = (r * r ≤ M) × (M < (r + 1) * (r + 1))

bit-root : (k : ℕ) (b : Bool) (r M : ℕ) → b ≡ fits_bit k r M → r * r ≤ M → M < (r + 2 ^ k) * (r + 2 ^ k) → Whole M (bit_root k b r M)
unfolding bit_root fits_bit
bit-root zero b r M e l u = (l, u)
bit-root (suc k) true r M e l u =
    bit-root k (fits_bit k (r + 2 ^ k) M) (r + 2 ^ k) M refl (leb→le ((r + 2 ^ k) * (r + 2 ^ k)) M (subst T e tt)) (subst (λ (z : ℕ). M < z * z) twice u)
  where
    twice : r + 2 ^ suc k ≡ r + 2 ^ k + 2 ^ k
    twice = ap (λ (z : ℕ). r + z) (pow-succ' 2 k ∙ two-mul (2 ^ k)) ∙ sym (add_assoc r (2 ^ k) (2 ^ k))
bit-root (suc k) false r M e l u = bit-root k (fits_bit k r M) r M refl l (nleb→lt ((r + 2 ^ k) * (r + 2 ^ k)) M (subst (λ (t : Bool). T (not t)) e tt))

pub nearest-whole : (M : ℕ) → 0 < M → M < 2 ^ 128 → NearestWhole M (nearest_whole M)
unfolding nearest_whole up_or_not
nearest-whole M p h =
    let r = bit_root 64 (fits_bit 64 0 M) 0 M in
    let w : Whole M r = bit-root 64 (fits_bit 64 0 M) 0 M refl (omega arith) h in
    go r w (ltb (r * r + r) M) (ltb→lt (r * r + r) M) (nltb→le (r * r + r) M)
  where
    go : (r : ℕ) → Whole M r → (t : Bool) → (T t → r * r + r < M) → (T (not t) → M ≤ r * r + r) → NearestWhole M (cond t (r + 1) r)
    go r w true a b =
        let sq : (r + 1) * (r + 1) ≡ r * r + (r + r) + 1 = simp (mul-add, add-mul) (omega arith) in
        let l : r * r + r < M = a tt in
        let u : M < (r + 1) * (r + 1) = w.1 in
        record { above = omega arith; below = omega arith }
    go r w false a b = record { above = strict r w.0 (b tt); below = b tt }
      where
        strict : (r : ℕ) → r * r ≤ M → M ≤ r * r + r → r * r < M + r
        strict zero g l = absurd (none p l)
          where
            none : 0 < M → M ≤ 0 → ⊥
            none x y = omega arith
        strict (suc r) g l = omega arith

-- a square root of at least P, of a number that is at most P² - P. (`omega` stops at numbers of more than 38 digits, so P is a variable.)
many : (P M n : ℕ) → 0 < P → P ≤ n → M + P ≤ P * P → n * n < M + n → ⊥
many P M n pp h m a =
    let d = n - P in
    let e : n ≡ P + d = omega arith in
    let s : P * n ≤ n * n = mul-le-mul_right n h in
    let t : P * n ≡ P * P + P * d = ap (λ (z : ℕ). P * z) e ∙ mul-add P P d in
    let u : 1 * d ≤ P * d = mul-le-mul_right d pp in
    omega arith

-- ---- the square root of a number of 105 or 106 bits, as `root_bits` has it, has 53
pub root-range : (M n : ℕ) → 2 ^ 104 ≤ M → M + 2 ^ 53 ≤ 2 ^ 106 → NearestWhole M n → (2 ^ 52 ≤ n) × (n < 2 ^ 53)
root-range M n lo hi p = (
  elim (below_or_not n (2 ^ 52)) [ inl l ↦ absurd (few l) | inr h ↦ h ],
  elim (below_or_not n (2 ^ 53)) [ inl l ↦ l | inr h ↦ absurd (many (2 ^ 53) M n (lit< tt) h hi p.above) ],
)
  where
    few : n < 2 ^ 52 → ⊥
    few l =
        let s : n * n ≤ (2 ^ 52 - 1) * n = mul-le-mul_right n (omega arith) in
        let b : M ≤ n * n + n = p.below in
        omega arith

-- ---- the two shifts of the significand
pub moved-even : (m x : ℕ) → x % 2 ≡ 0 → m * 2 * 2 ^ 52 ≡ m * 2 ^ (52 + (x + 1) % 2)
moved-even m x e =
    let o : (x + 1) % 2 ≡ 1 = omega arith in
    subst (λ (k : ℕ). m * 2 * 2 ^ 52 ≡ m * 2 ^ (52 + k)) (sym o) (omega arith)

pub moved-odd : (m x : ℕ) → (x % 2 ≡ 0 → ⊥) → m * 2 ^ 52 ≡ m * 2 ^ (52 + (x + 1) % 2)
moved-odd m x e =
    let o : (x + 1) % 2 ≡ 0 = omega arith in
    subst (λ (k : ℕ). m * 2 ^ 52 ≡ m * 2 ^ (52 + k)) (sym o) refl

abbrev pub Wide : ℕ → ℕ
Wide b = (2 ^ 52 + b % 2 ^ 52) * 2 ^ (52 + (b / 2 ^ 52 + 1) % 2)

-- h is b's significand, shifted left by one where the exponent field is even
pub record Moved (b h : ℕ) : Type 0 where
  pub low : 2 ^ 52 ≤ h
  pub high : h + 2 ≤ 2 ^ 54
  pub wide : h * 2 ^ 52 ≡ Wide b

pub even-case : (b h : ℕ) → b / 2 ^ 52 % 2 ≡ 0 → h ≡ (2 ^ 52 + b % 2 ^ 52) * 2 → Moved b h
even-case b h e q = record { low = omega arith; high = omega arith; wide = ap (λ (z : ℕ). z * 2 ^ 52) q ∙ moved-even (2 ^ 52 + b % 2 ^ 52) (b / 2 ^ 52) e }

pub odd-case : (b h : ℕ) → (b / 2 ^ 52 % 2 ≡ 0 → ⊥) → h ≡ 2 ^ 52 + b % 2 ^ 52 → Moved b h
odd-case b h e q = record { low = omega arith; high = omega arith; wide = ap (λ (z : ℕ). z * 2 ^ 52) q ∙ moved-odd (2 ^ 52 + b % 2 ^ 52) (b / 2 ^ 52) e }

pub moved-any : (b : ℕ) → (h : ℕ) × Moved b h
moved-any b = elim (below_or_not (b / 2 ^ 52 % 2) 1) [
  | inl l ↦ ((2 ^ 52 + b % 2 ^ 52) * 2, even-case b ((2 ^ 52 + b % 2 ^ 52) * 2) (zeroed (b / 2 ^ 52 % 2) l) refl)
  | inr g ↦ (2 ^ 52 + b % 2 ^ 52, odd-case b (2 ^ 52 + b % 2 ^ 52) (λ (z : b / 2 ^ 52 % 2 ≡ 0). clash (b / 2 ^ 52 % 2) z g) refl)
]
  where
    zeroed : (r : ℕ) → r < 1 → r ≡ 0
    zeroed r h = omega arith

    clash : (r : ℕ) → r ≡ 0 → 1 ≤ r → ⊥
    clash r z g = omega arith

-- so its shifted number is in the range of `root-range`
pub wide_low : (h : ℕ) → 2 ^ 52 ≤ h → 2 ^ 104 ≤ h * 2 ^ 52
wide_low h l = mul-le-mul_right (2 ^ 52) l

pub wide_high : (h : ℕ) → h + 2 ≤ 2 ^ 54 → h * 2 ^ 52 + 2 ^ 53 ≤ 2 ^ 106
wide_high h l = le_trans (le_of_eq (sym (add-mul h 2 (2 ^ 52)))) (mul-le-mul_right (2 ^ 52) l)

-- what the square root of h is
pub found-range : (b h n : ℕ) → Moved b h → NearestWhole (h * 2 ^ 52) n → (2 ^ 52 ≤ n) × (n < 2 ^ 53)
found-range b h n m p = root-range (h * 2 ^ 52) n (wide_low h m.low) (wide_high h m.high) p

pub under128 : (M : ℕ) → M + 2 ^ 53 ≤ 2 ^ 106 → M < 2 ^ 128
under128 M h = lt_of_le_of_lt (le_trans (le-add_right M (2 ^ 53)) h) (lit< tt)

pub found : (b h n : ℕ) → Moved b h → NearestWhole (h * 2 ^ 52) n → (b / 2 ^ 52 + 1023) / 2 * 2 ^ 52 + (n - 2 ^ 52) ≡ root_bits b
unfolding root_bits
found b h n m p =
    let e : n ≡ nearest_whole (h * 2 ^ 52) = one-nearest (h * 2 ^ 52) n (nearest_whole (h * 2 ^ 52)) p (nearest-whole (h * 2 ^ 52) (lt_of_lt_of_le (lit< tt) (wide_low h m.low)) (under128 (h * 2 ^ 52) (wide_high h m.high))) in
    ap (λ (z : ℕ). (b / 2 ^ 52 + 1023) / 2 * 2 ^ 52 + (z - 2 ^ 52)) (e ∙ ap nearest_whole m.wide)

-- and the pattern that it makes is a normal value's
pub found-normal : (b n : ℕ) → 2 ^ 52 ≤ b → b < 9218868437227405312 → 2 ^ 52 ≤ n → n < 2 ^ 53 → (2 ^ 52 ≤ (b / 2 ^ 52 + 1023) / 2 * 2 ^ 52 + (n - 2 ^ 52)) × ((b / 2 ^ 52 + 1023) / 2 * 2 ^ 52 + (n - 2 ^ 52) < 9218868437227405312)
found-normal b n l u nl nu = omega arith
