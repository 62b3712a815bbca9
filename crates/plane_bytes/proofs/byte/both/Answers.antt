-- `plane_bytes::byte::both` meets its contract.
use Rattle.std.proofs.Common.{◌≡◌, ℕ, ◌+◌, ◌≤◌, max, ◌∙◌, arith}
use Rattle.plane_bytes.specs.Byte.{both_of, pri_of, sec_of, four_of}
use Rattle.plane_bytes.specs.ByteBounds.{high_le, low-le}
use Rattle.plane_bytes.proofs.byte.both.Goals as goal

three : (c x y z m n : ℕ) → x + c ≤ 255 → y + c ≤ 255 → z + c ≤ 255 → m ≡ max y z → n ≡ max x m → n + c ≤ 255
three c x y z m n a b d e f = omega arith

three-low : (c x y z m n : ℕ) → x ≤ c → y ≤ c → z ≤ c → m ≡ max y z → n ≡ max x m → n ≤ c
three-low c x y z m n a b d e f = omega arith

pub clipped-requires : goal.clipped-requires
unfolding four_of
clipped-requires c = let r = c.ranges in (
  omega (arith, c.pri.ensures.1, c.sec.ensures.1),
  omega (arith, c.pri-2.ensures.1, c.sec-2.ensures.1),
  three _ _ _ _ _ _
      (rw c.four.ensures (high_le _ _ _ _ _ r.a0.fits r.b0.fits r.a1.fits r.b1.fits r.c.fits))
      (rw c.four-2.ensures (high_le _ _ _ _ _ r.a2.fits r.b2.fits r.a3.fits r.b3.fits r.c.fits))
      (rw c.four-3.ensures (high_le _ _ _ _ _ r.a4.fits r.b4.fits r.a5.fits r.b5.fits r.c.fits)) c.max.ensures c.max-high.ensures,
  three-low _ _ _ _ _ _ (rw c.four-4.ensures (low-le _ _ _ _ _)) (rw c.four-5.ensures (low-le _ _ _ _ _)) (rw c.four-6.ensures (low-le _ _ _ _ _)) c.max-2.ensures c.max-low.ensures,
)

pub returns : goal.returns
unfolding both_of pri_of sec_of four_of
returns c = c.clipped.ensures ∙ rw (c.max-low.ensures, c.max-2.ensures, c.four-4.ensures, c.four-5.ensures, c.four-6.ensures, c.max-high.ensures, c.max.ensures, c.four.ensures, c.four-2.ensures, c.four-3.ensures, c.pri.ensures.0, c.sec.ensures.0, c.pri-2.ensures.0, c.sec-2.ensures.0)
