-- `plane_block::rows::eight_wide` meets its contract.
use Rattle.std.proofs.Common.{◌≡◌, ℕ, ◌≤◌, sym, ⊎_elim, arith}
use Rattle.plane_block.specs.Inside.{Sided}
use Rattle.plane_block.specs.RowLaws.{two-rows, eighth-is, stored-as}
use Rattle.plane_block.proofs.rows.eight_wide.Goals as goal

short : {n : ℕ} → Sided n → (n ≡ 8 → ⊥) → n ≡ 4
short s n = ⊎_elim (λ e. e) (λ e. absurd (n e)) s.side

few : {n : ℕ} → Sided n → n ≤ 8
few s = ⊎_elim (λ e. omega arith) (λ e. omega arith) s.side

pub rows-requires : goal.rows-requires
rows-requires c = let r = c.requires.all_low in
    let b = c.in_bytes.ensures c.if-in_bytes.true in
    let full : c.args.n ≡ 8 = c.if-n-eq8.true in
    record { all_byte = (r.7 b.deep, r.1, omega arith, eighth-is b r.4 r.6); rows_inside = λ i h. two-rows _ _ _ _ _ _ _ _ c.taps-t.ensures c.requires.rows_inside i (omega arith) }

pub returns-then-n-eq8 : goal.returns-then-n-eq8
returns-then-n-eq8 c = stored-as _ _ _ _ _ _ _ _ _ _ _ _ c.taps-t.ensures (sym c.if-n-eq8.true) c.rows.ensures

pub rows-requires-then-in_bytes : goal.rows-requires-then-in_bytes
rows-requires-then-in_bytes c = let r = c.requires.all_low in
    let b = c.in_bytes.ensures c.if-in_bytes.true in
    let half : c.args.n ≡ 4 = short r.2 c.if-n-eq8.false in
    record { all_byte = (r.7 b.deep, r.1, omega arith, eighth-is b r.4 r.6); rows_inside = λ i h. two-rows _ _ _ _ _ _ _ _ c.taps-t.ensures c.requires.rows_inside i (omega arith) }

pub returns-then-in_bytes : goal.returns-then-in_bytes
returns-then-in_bytes c = stored-as _ _ _ _ _ _ _ _ _ _ _ _ c.taps-t.ensures (sym (short c.requires.all_low.2 c.if-n-eq8.false)) c.rows-then-in_bytes.ensures

pub rows-requires-2 : goal.rows-requires-2
rows-requires-2 c = let r = c.requires.all_low in
    record { all_low = (r.0, r.1, few r.2, r.3, r.4, r.5); rows_inside = c.requires.rows_inside }
