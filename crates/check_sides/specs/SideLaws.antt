-- What a passed test says as a bound: sides, lengths, corners.
use Rattle.std.specs.Prelude.{◌≡◌, true, ℕ, ◌*◌, ◌≤◌, ◌<◌, leb, ltb, length}
use Rattle.std.proofs.Common.{leb-true, ltb-true, eqb-true}
use Rattle.cdef_spec.specs.Document01.{Plane}
use Rattle.cdef_spec.specs.Questions.{side_taken, full, corner_taken, block_side_taken}
use Rattle.cdef_spec.specs.WordsLaws.{and_both}

pub side-le : (n : ℕ) → side_taken n ≡ true → (1 ≤ n) × (n ≤ 4096)
unfolding side_taken
side-le n e = let b = and_both (leb 1 n) (leb n 4096) e in (leb-true 1 n b.0, leb-true n 4096 b.1)

pub full-length : (p : Plane) → full p ≡ true → length p.samples ≡ p.width * p.height
unfolding full
full-length p e = eqb-true (length p.samples) (p.width * p.height) e

pub corner-low : (p : Plane) (y x : ℕ) → corner_taken p y x ≡ true → (x < p.width) × (y < p.height)
unfolding corner_taken
corner-low p y x e = let b = and_both (ltb x p.width) (ltb y p.height) e in (ltb-true x p.width b.0, ltb-true y p.height b.1)

pub block-side-le : (n : ℕ) → block_side_taken n ≡ true → n ≤ 8
unfolding block_side_taken
block-side-le n e = leb-true n 8 (and_both (leb 1 n) (leb n 8) e).1
