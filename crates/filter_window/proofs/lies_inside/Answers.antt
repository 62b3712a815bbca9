-- `filter_window::lies_inside` meets its contract.
use Rattle.std.specs.Prelude.{◌≡◌, ◌&&◌, ◌⊎◌, ℕ, ◌+◌, ◌%◌, ◌≤◌, leb}
use Rattle.std.proofs.Common.{sym, ◌∙◌, inl, inr, leb-true, arith}
use Rattle.std.proofs.Math.Decide.{ℕ_discrete}
use Rattle.cdef_spec.specs.WordsLaws.{and_both}
use Rattle.plane_inside.specs.Inner.{inner_block}
use Rattle.filter_window.proofs.lies_inside.Goals as goal

-- a width that four divides
four-or-eight : (n : ℕ) → n % 4 ≡ 0 → (n ≡ 0 → ⊥) → n ≤ 8 → (n ≡ 4) ⊎ (n ≡ 8)
four-or-eight n d z m = go (ℕ_discrete n 4)
  where
    go : Dec (n ≡ 4) → (n ≡ 4) ⊎ (n ≡ 8)
    go (yes e) = inl e
    go (no e) = inr (omega (arith, z, e))

pub returns-then-b-ne0 : goal.returns-then-b-ne0
unfolding inner_block
returns-then-b-ne0 c = λ e.
    let b = c.args.b in
    let t = c.if-b-ne0.true in
    let all = and_both (leb 2 b.x && leb 2 b.y) _ (sym c.inside.ensures ∙ e) in
    let low = and_both (leb 2 b.x) (leb 2 b.y) all.0 in
    let high = and_both (leb (b.x + b.width + 2) c.args.w) (leb (b.y + b.height + 2) c.args.h) all.1 in
    record { width = four-or-eight b.width t.0 t.1 c.requires.2; left = leb-true _ _ low.0; top = leb-true _ _ low.1; right = leb-true _ _ high.0; bottom = leb-true _ _ high.1 }
