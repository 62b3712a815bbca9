-- `trial_sums::sec_sums` meets its contract.
use Rattle.std.proofs.Common.{◌≡◌, refl, sym, ◌∙◌, List, ℕ, ◌+◌, ◌≤◌, ◌<◌, ℤ, pos, get_or, length-set, arith}
use Rattle.arith_sample.specs.Upto.{upto, upto-none, upto-more, upto_all, get_or-upto}
use Rattle.arith_sample.proofs.Joins.{Is, add_ok, add_is, back_is}
use Rattle.plane_taps.specs.ReachLaws.{reached-all}
use Rattle.filter_limits.specs.declared.Pair.{Pair}
use Rattle.filter_rows.specs.declared.Taps.{Taps}
use Rattle.filter_rows.specs.Pairs.{pair_of}
use Rattle.trial_sums.specs.Raw.{side_of, near_raw, sec_raw}
use Rattle.trial_sums.specs.RawLaws.{sixteen-at, sixteen-held, held-pair, size-side, size-near}
use Rattle.trial_sums.proofs.sec_sums.Goals as goal

-- the near taps' part of sample j, and the far ones'
near : (l : List ℕ) (at : ℕ) (o : Taps) (s sh : ℕ) (r : List ℤ) (j : ℕ) → r ≡ upto (λ (i : ℕ). near_raw l (at + i) o s sh) 16 → j < 16 → s ≤ 240 → Is (get_or r j (pos 0)) (near_raw l (at + j) o s sh) 1920
near l at o s sh r j e h low = record { is = rw e (get_or-upto _ 16 j (pos 0) h); small = size-near l (at + j) o s sh low }

far : (l : List ℕ) (k : ℕ) (o : Taps) (s sh : ℕ) (a b : Pair) (v : ℕ) (x : ℤ) → x ≡ side_of a b v s sh → v ≡ get_or l k 0 → a ≡ pair_of l k o.q1 → b ≡ pair_of l k o.r1 → s ≤ 240 → Is x (side_of (pair_of l k o.q1) (pair_of l k o.r1) (get_or l k 0) s sh) 960
far l k o s sh a b v x e h f g low = record { is = e ∙ rw (h, f, g); small = size-side _ _ _ s sh low }

pub loop-j-init : goal.loop-j-init
loop-j-init c = (sym (upto-none _), sym (upto-none _), refl, refl, omega arith)

pub overflow_add-k : goal.overflow_add-k
overflow_add-k c = omega (arith, c.requires.0.p0.high)

pub load-a-requires : goal.load-a-requires
load-a-requires c = (reached-all c.requires.0 c.loop-j.j (omega arith)).q1

pub load-b-requires : goal.load-b-requires
load-b-requires c = (reached-all c.requires.0 c.loop-j.j (omega arith)).r1

pub side-requires : goal.side-requires
side-requires c = (held-pair _ _ _ _ c.requires.1 c.load-a.ensures, held-pair _ _ _ _ c.requires.1 c.load-b.ensures, sixteen-held _ _ _ (omega arith) c.requires.1, c.requires.2, c.requires.3)

pub add-requires : goal.add-requires
add-requires c = let a = c.args in let j = c.loop-j.j in
    add_ok (near a.t.now a.at a.o a.f.s a.f.sh _ j c.near_sums-near.ensures.s1-is (omega arith) c.requires.2) (far a.t.now (a.at + j) a.o a.f.s a.f.sh _ _ _ _ c.side.ensures (sixteen-at a.t.now a.at c.loop-j.j (omega arith)) c.load-a.ensures c.load-b.ensures c.requires.2) (omega arith)

pub side-requires-in-loop-j : goal.side-requires-in-loop-j
side-requires-in-loop-j c = (held-pair _ _ _ _ c.requires.1 c.load-a.ensures, held-pair _ _ _ _ c.requires.1 c.load-b.ensures, sixteen-held _ _ _ (omega arith) c.requires.1, c.requires.4, c.requires.5)

pub add-requires-in-loop-j : goal.add-requires-in-loop-j
add-requires-in-loop-j c = let a = c.args in let j = c.loop-j.j in
    add_ok (near a.t.now a.at a.o a.g.s a.g.sh _ j c.near_sums-near.ensures.s2-is (omega arith) c.requires.4) (far a.t.now (a.at + j) a.o a.g.s a.g.sh _ _ _ _ c.side-in-loop-j.ensures (sixteen-at a.t.now a.at c.loop-j.j (omega arith)) c.load-a.ensures c.load-b.ensures c.requires.4) (omega arith)

pub loop-j-preserved : goal.loop-j-preserved
unfolding sec_raw
loop-j-preserved c = let a = c.args in let j = c.loop-j.j in let i = c.loop-j.invariant in (
  upto-more _ _ _ _ i.0 (omega (arith, i.2)) (back_is (add_is (near a.t.now a.at a.o a.f.s a.f.sh _ j c.near_sums-near.ensures.s1-is (omega arith) c.requires.2) (far a.t.now (a.at + j) a.o a.f.s a.f.sh _ _ _ _ c.side.ensures (sixteen-at a.t.now a.at c.loop-j.j (omega arith)) c.load-a.ensures c.load-b.ensures c.requires.2) (omega arith) c.add.ensures) (omega arith)),
  upto-more _ _ _ _ i.1 (omega (arith, i.3)) (back_is (add_is (near a.t.now a.at a.o a.g.s a.g.sh _ j c.near_sums-near.ensures.s2-is (omega arith) c.requires.4) (far a.t.now (a.at + j) a.o a.g.s a.g.sh _ _ _ _ c.side-in-loop-j.ensures (sixteen-at a.t.now a.at c.loop-j.j (omega arith)) c.load-a.ensures c.load-b.ensures c.requires.4) (omega arith) c.add-in-loop-j.ensures) (omega arith)),
  simp length-set i.2,
  simp length-set i.3,
  omega arith,
)

pub returns : goal.returns
returns c = let i = c.loop-j.invariant in record { s1-is = upto_all _ _ 16 _ i.0 i.2 (omega arith); s2-is = upto_all _ _ 16 _ i.1 i.3 (omega arith) }
