-- Rows of eight samples two at a time: where they lie, and their strengths.
use Rattle.std.specs.Prelude.{◌≡◌, List, ℕ, ◌+◌, ◌*◌, ◌≤◌, ◌<◌}
use Rattle.std.proofs.Common.{arith}
use Rattle.std.proofs.Math.Decide.{dec_le}
use Rattle.filter_rows.specs.declared.Taps.{Taps}
use Rattle.filter_rows.specs.declared.Strength.{Strength}
use Rattle.filter_rows.specs.Sums.{InRange}
use Rattle.filter_kernel.specs.Kernel.{pri_of}
use Rattle.plane_taps.specs.Reach.{Along, Around}
use Rattle.plane_rows.specs.Rows.{Stored}
use Rattle.plane_bytes.specs.Eights.{StrongBytes}
use Rattle.plane_block.specs.Inside.{Bytes, Weighted}

-- a row and the next one
joined : (len w k o : ℕ) → Along len k 8 o → Along len (k + w) 8 o → Along len k (w + 8) o
joined len w k o a b = go (dec_le a.m b.m)
  where
    go : Dec (a.m ≤ b.m) → Along len k (w + 8) o
    go (yes l) = record { m = a.m; low = a.low; high = omega (arith, b.high); small = a.small; reach = a.reach }
    go (no l) = record { m = b.m; low = omega (arith, a.low); high = omega (arith, b.high); small = a.small; reach = b.reach }

joined-all : (len w k : ℕ) (t : Taps) → Around len k 8 t → Around len (k + w) 8 t → Around len k (w + 8) t
joined-all len w k t a b = record {
  p0 = joined len w k t.p0 a.p0 b.p0;
  p1 = joined len w k t.p1 a.p1 b.p1;
  q0 = joined len w k t.q0 a.q0 b.q0;
  q1 = joined len w k t.q1 a.q1 b.q1;
  r0 = joined len w k t.r0 a.r0 b.r0;
  r1 = joined len w k t.r1 a.r1 b.r1;
}

-- rows 2 i and 2 i + 1
pub two-rows : (len m w at to n : ℕ) (t u : Taps) → u ≡ t → ((i : ℕ) → i < n → Around len (at + i * w) 8 t × (to + i * w + 8 ≤ m)) → (i : ℕ) → 2 * i + 2 ≤ n → Around len (at + 2 * i * w) (w + 8) u × (to + 2 * i * w + (w + 8) ≤ m)
two-rows len m w at to n t u e h i l =
    let a = h (2 * i) (omega arith) in
    let b = h (2 * i + 1) (omega arith) in
    let z : at + (2 * i + 1) * w ≡ at + 2 * i * w + w = omega arith in
    rw e (joined-all len w (at + 2 * i * w) t a.0 (rw z at b.0), omega (arith, b.1))

-- the same taps, and as many rows
pub stored-as : (l d last : List ℕ) (w at to : ℕ) (t u : Taps) (f g : Strength) (m n : ℕ) → t ≡ u → m ≡ n → Stored l d last w at to t f g 8 m → Stored l d last w at to u f g 8 n
stored-as l d last w at to t u f g m n e k h = rw (← e, ← k) h

pub eighth-is : {depth : ℕ} {f g : Strength} → Bytes depth f.s f.sh g.s g.sh → InRange f → Weighted f g → StrongBytes f g
eighth-is b r m = record {
  strong = record { pri = b.pri; some = b.some; pri-shift = b.pri-shift; least = m.least; most = r.w0; sec = b.sec; some2 = b.some2; sec-shift = b.sec-shift };
  pri = m.pri;
  sec = m.sec;
}

-- the near weight of the primary taps
pub near-least : (s d depth : ℕ) → 3 ≤ (pri_of s d depth).w0
unfolding pri_of
near-least s d depth = omega arith
