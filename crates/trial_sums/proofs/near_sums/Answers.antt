-- `trial_sums::near_sums` meets its contract.
use Rattle.std.proofs.Common.{◌≡◌, refl, sym, ◌∙◌, List, ℕ, ◌+◌, ◌≤◌, ℤ, get_or, length-set, arith}
use Rattle.arith_sample.specs.Upto.{upto-none, upto-more, upto_all}
use Rattle.arith_sample.proofs.Joins.{Is, scale_ok, scale-is, back_is}
use Rattle.plane_taps.specs.ReachLaws.{reached-all}
use Rattle.filter_limits.specs.declared.Pair.{Pair}
use Rattle.filter_rows.specs.declared.Taps.{Taps}
use Rattle.filter_rows.specs.Pairs.{pair_of}
use Rattle.trial_sums.specs.Raw.{side_of, near_raw}
use Rattle.trial_sums.specs.RawLaws.{sixteen-at, sixteen-held, held-pair, size-side}
use Rattle.trial_sums.proofs.near_sums.Goals as goal

-- the near taps' part of the sample at k, before it is weighed
near : (l : List ℕ) (k : ℕ) (o : Taps) (s sh : ℕ) (a b : Pair) (v : ℕ) (x : ℤ) → x ≡ side_of a b v s sh → v ≡ get_or l k 0 → a ≡ pair_of l k o.q0 → b ≡ pair_of l k o.r0 → s ≤ 240 → Is x (side_of (pair_of l k o.q0) (pair_of l k o.r0) (get_or l k 0) s sh) 960
near l k o s sh a b v x e h f g low = record { is = e ∙ rw (h, f, g); small = size-side _ _ _ s sh low }

pub loop-j-init : goal.loop-j-init
loop-j-init c = (sym (upto-none _), sym (upto-none _), refl, refl, omega arith)

pub overflow_add-k : goal.overflow_add-k
overflow_add-k c = omega (arith, c.requires.0.p0.high)

pub load-a-requires : goal.load-a-requires
load-a-requires c = (reached-all c.requires.0 c.loop-j.j (omega arith)).q0

pub load-b-requires : goal.load-b-requires
load-b-requires c = (reached-all c.requires.0 c.loop-j.j (omega arith)).r0

pub side-requires : goal.side-requires
side-requires c = (held-pair _ _ _ _ c.requires.1 c.load-a.ensures, held-pair _ _ _ _ c.requires.1 c.load-b.ensures, sixteen-held _ _ _ (omega arith) c.requires.1, c.requires.2, c.requires.3)

pub scale-requires : goal.scale-requires
scale-requires c = let a = c.args in scale_ok {t = 2} (near a.t.now (a.at + c.loop-j.j) a.o a.f.s a.f.sh _ _ _ _ c.side.ensures (sixteen-at a.t.now a.at c.loop-j.j (omega arith)) c.load-a.ensures c.load-b.ensures c.requires.2) (omega arith) (omega arith) (omega arith) (omega arith)

pub side-requires-in-loop-j : goal.side-requires-in-loop-j
side-requires-in-loop-j c = (held-pair _ _ _ _ c.requires.1 c.load-a.ensures, held-pair _ _ _ _ c.requires.1 c.load-b.ensures, sixteen-held _ _ _ (omega arith) c.requires.1, c.requires.4, c.requires.5)

pub scale-requires-in-loop-j : goal.scale-requires-in-loop-j
scale-requires-in-loop-j c = let a = c.args in scale_ok {t = 2} (near a.t.now (a.at + c.loop-j.j) a.o a.g.s a.g.sh _ _ _ _ c.side-in-loop-j.ensures (sixteen-at a.t.now a.at c.loop-j.j (omega arith)) c.load-a.ensures c.load-b.ensures c.requires.4) (omega arith) (omega arith) (omega arith) (omega arith)

pub loop-j-preserved : goal.loop-j-preserved
unfolding near_raw
loop-j-preserved c = let a = c.args in let k : ℕ = a.at + c.loop-j.j in let i = c.loop-j.invariant in (
  upto-more _ _ _ _ i.0 (omega (arith, i.2)) (back_is (scale-is {t = 2} (near a.t.now k a.o a.f.s a.f.sh _ _ _ _ c.side.ensures (sixteen-at a.t.now a.at c.loop-j.j (omega arith)) c.load-a.ensures c.load-b.ensures c.requires.2) (omega arith) (omega arith) (omega arith) (omega arith) c.scale.ensures) (omega arith)),
  upto-more _ _ _ _ i.1 (omega (arith, i.3)) (back_is (scale-is {t = 2} (near a.t.now k a.o a.g.s a.g.sh _ _ _ _ c.side-in-loop-j.ensures (sixteen-at a.t.now a.at c.loop-j.j (omega arith)) c.load-a.ensures c.load-b.ensures c.requires.4) (omega arith) (omega arith) (omega arith) (omega arith) c.scale-in-loop-j.ensures) (omega arith)),
  simp length-set i.2,
  simp length-set i.3,
  omega arith,
)

pub returns : goal.returns
returns c = let i = c.loop-j.invariant in record { s1-is = upto_all _ _ 16 _ i.0 i.2 (omega arith); s2-is = upto_all _ _ 16 _ i.1 i.3 (omega arith) }
