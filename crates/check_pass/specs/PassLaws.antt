-- What follows, as facts, where all checks of the direction pass pass, and where the first two do.
use Rattle.std.specs.Prelude.{◌≡◌, true, false, ◌&&◌, List, [], ◌∷◌, ℕ, ◌*◌, ◌/◌, ◌%◌, ◌^◌, ◌≤◌, ◌<◌, eqb, get_or, length}
use Rattle.std.proofs.Common.{sym, ◌∙◌, mul-le-mul, arith, pow_pos}
use borrow.Author.Tests.{eqb-true, ne_eqb, eq-eqb}
use Rattle.cdef_spec.specs.WordsLaws.{and_both}
use Rattle.cdef_spec.specs.Document01.{Plane}
use Rattle.cdef_spec.specs.Questions.{Question, ask, first_no, all_below, luma_side_taken, full}
use Rattle.cdef_spec.specs.QuestionLaws.{below_get, first-yes, depth-high}
use Rattle.cdef_spec.specs.FrameCalls.{direction_pass_no}
use Rattle.frame_shape.specs.ShapeLaws.{side-facts}
use Rattle.check_picture.specs.Parts.{sides_first}
use Rattle.check_picture.specs.PartLaws.{sides-stop, sides-passed}

-- what the direction pass requires
pub record PassFacts (p : Plane) (depth : ℕ) (dirs vars : List ℕ) : Type 0 where
  pub deep : 8 ≤ depth
  pub flat : depth ≤ 12
  pub w-low : 1 ≤ p.width
  pub wide : p.width ≤ 4096
  pub w-whole : p.width % 8 ≡ 0
  pub h-low : 1 ≤ p.height
  pub high : p.height ≤ 4096
  pub h-whole : p.height % 8 ≡ 0
  pub full_is : length p.samples ≡ p.width * p.height
  pub low : (k : ℕ) → get_or p.samples k 0 < 2 ^ depth
  pub dirs-long : length dirs ≡ p.height / 8 * (p.width / 8)
  pub vars-long : length vars ≡ p.height / 8 * (p.width / 8)

-- 1 and 2
pub record SidesFacts (depth width height : ℕ) : Type 0 where
  pub deep : 8 ≤ depth
  pub flat : depth ≤ 12
  pub wide : (1 ≤ width) × (width ≤ 4096) × (width % 8 ≡ 0)
  pub high : (1 ≤ height) × (height ≤ 4096) × (height % 8 ≡ 0)

module _ (depth width height : ℕ) where
  pub sides-facts : first_no (sides_first depth width height) ≡ 0 → SidesFacts depth width height
  sides-facts z =
      let a = first-yes _ _ (λ e. omega arith) z in
      let b = first-yes _ _ (λ e. omega arith) a.1 in
      let h = depth-high depth a.0 in
      let k = and_both (luma_side_taken width) (luma_side_taken height) b.0 in
      record { deep = h.0; flat = h.1; wide = side-facts width k.0; high = side-facts height k.1 }

  module _ (s : SidesFacts depth width height) where
    pub product-low : width * height ≤ 4096 * 4096
    product-low = mul-le-mul s.wide.1 s.high.1

module _ (p : Plane) (depth : ℕ) (dirs vars : List ℕ) where
  abbrev n : ℕ
  n = p.height / 8 * (p.width / 8)

  pub pass-facts : direction_pass_no p depth dirs vars ≡ 0 → PassFacts p depth dirs vars
  unfolding direction_pass_no full
  pass-facts z =
      let a = first-yes _ _ (λ e. omega arith) z in
      let b = first-yes _ _ (λ e. omega arith) a.1 in
      let c = first-yes _ _ (λ e. omega arith) b.1 in
      let d = first-yes _ _ (λ e. omega arith) c.1 in
      let f = first-yes _ _ (λ e. omega arith) d.1 in
      let h = depth-high depth a.0 in
      let k = and_both (luma_side_taken p.width) (luma_side_taken p.height) b.0 in
      let w = side-facts p.width k.0 in
      let g = side-facts p.height k.1 in
      let l = and_both (eqb (length dirs) n) (eqb (length vars) n) d.0 in
      record {
        deep = h.0;
        flat = h.1;
        w-low = w.0;
        wide = w.1;
        w-whole = w.2;
        h-low = g.0;
        high = g.1;
        h-whole = g.2;
        full_is = eqb-true _ _ c.0;
        low = below_get (2 ^ depth) p.samples f.0 (pow_pos depth);
        dirs-long = eqb-true _ _ l.0;
        vars-long = eqb-true _ _ l.1;
      }
