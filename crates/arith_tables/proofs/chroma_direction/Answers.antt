-- `arith_tables::chroma_direction` meets its contract.
use mathlib.Core.Path.{◌≡◌, sym, ◌∙◌}
use Prim.Native.Nat.{ℕ, ◌<◌}
use native.Mathlib.Omega.{arith}
use borrow.Author.Tests.{ne_eqb}
use Rattle.cdef_spec.specs.Standard.{chroma_direction}
use Rattle.cdef_spec.specs.ChromaLaws.{chroma-kept}
use Rattle.arith_tables.proofs.Entries.{uv-422, uv-422-is, uv-440, uv-440-is}
use Rattle.arith_tables.proofs.chroma_direction.Goals as goal

-- the three ways, each with what the tests leave of the flags
kept : (x y d : ℕ) → x ≡ y → y < 2 → d < 8 → chroma_direction x y d ≡ d
kept x y d e hy h = rw e (chroma-kept y d hy h)

on-422 : (x y d : ℕ) → x ≡ 1 → y ≡ 0 → d < 8 → chroma_direction x y d ≡ uv-422 d
on-422 x y d e f h = rw (e, f) (uv-422-is d h)

on-440 : (x y d : ℕ) → x ≡ 0 → y ≡ 1 → d < 8 → chroma_direction x y d ≡ uv-440 d
on-440 x y d e f h = rw (e, f) (uv-440-is d h)

pub returns-then-sub_x-sub_y : goal.returns-then-sub_x-sub_y
returns-then-sub_x-sub_y c = sym (kept _ _ _ (omega arith) c.requires.1 c.requires.2)

pub returns-in-0 : goal.returns-in-0
returns-in-0 c = sym (on-422 _ _ _ (omega arith) (omega arith) c.requires.2 ∙ rw c.in-0.is)

pub returns-in-1 : goal.returns-in-1
returns-in-1 c = sym (on-422 _ _ _ (omega arith) (omega arith) c.requires.2 ∙ rw c.in-1.is)

pub returns-in-2 : goal.returns-in-2
returns-in-2 c = sym (on-422 _ _ _ (omega arith) (omega arith) c.requires.2 ∙ rw c.in-2.is)

pub returns-in-3 : goal.returns-in-3
returns-in-3 c = sym (on-422 _ _ _ (omega arith) (omega arith) c.requires.2 ∙ rw c.in-3.is)

pub returns-in-4 : goal.returns-in-4
returns-in-4 c = sym (on-422 _ _ _ (omega arith) (omega arith) c.requires.2 ∙ rw c.in-4.is)

pub returns-in_default : goal.returns-in_default
returns-in_default c = let n = c.in_default.in_default-own.rest in
    sym (on-422 _ _ _ (omega arith) (omega arith) c.requires.2 ∙ rw (ne_eqb _ 0 n.0.0.0.0.1, ne_eqb _ 1 n.0.0.0.1, ne_eqb _ 2 n.0.0.1, ne_eqb _ 3 n.0.1, ne_eqb _ 4 n.1))

pub returns-in-0-dir : goal.returns-in-0-dir
returns-in-0-dir c = sym (on-440 _ _ _ (omega arith) (omega arith) c.requires.2 ∙ rw c.in-0-dir.is)

pub returns-in-4-dir : goal.returns-in-4-dir
returns-in-4-dir c = sym (on-440 _ _ _ (omega arith) (omega arith) c.requires.2 ∙ rw c.in-4-dir.is)

pub returns-in-5 : goal.returns-in-5
returns-in-5 c = sym (on-440 _ _ _ (omega arith) (omega arith) c.requires.2 ∙ rw c.in-5.is)

pub returns-in-6 : goal.returns-in-6
returns-in-6 c = sym (on-440 _ _ _ (omega arith) (omega arith) c.requires.2 ∙ rw c.in-6.is)

pub returns-in-7 : goal.returns-in-7
returns-in-7 c = sym (on-440 _ _ _ (omega arith) (omega arith) c.requires.2 ∙ rw c.in-7.is)

pub returns-in_default-dir : goal.returns-in_default-dir
returns-in_default-dir c = let n = c.in_default-dir.in_default-dir-own.rest in
    sym (on-440 _ _ _ (omega arith) (omega arith) c.requires.2 ∙ rw (ne_eqb _ 0 n.0.0.0.0.1, ne_eqb _ 4 n.0.0.0.1, ne_eqb _ 5 n.0.0.1, ne_eqb _ 6 n.0.1, ne_eqb _ 7 n.1))
