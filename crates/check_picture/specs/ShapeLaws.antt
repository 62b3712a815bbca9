-- Where the first questions pass, a picture is shaped; where 7 and 8 pass too, it is listed.
use Rattle.std.specs.Prelude.{◌≡◌, true, ◌&&◌, eqb, length}
use Rattle.std.proofs.Common.{arith, eqb-true}
use Rattle.cdef_spec.specs.declared.SignalledDamping.{SignalledDamping}
use Rattle.cdef_spec.specs.WordsLaws.{and_both}
use Rattle.cdef_spec.specs.Picture.{Picture}
use Rattle.cdef_spec.specs.Questions.{first_no, all_below, luma_side_taken, variances_listed, picture_listed, variances_taken, signalled_taken, picture_taken}
use Rattle.cdef_spec.specs.QuestionLaws.{below_get, first-yes, depth-high}
use Rattle.frame_shape.specs.Shape.{Shaped, Listed, blocks}
use Rattle.check_picture.specs.Parts.{shape_first}

module _ (q : Picture) where
  pub shaped-is : first_no (shape_first q) ≡ 0 → Shaped q
  shaped-is z =
      let a = first-yes _ _ (λ e. omega arith) z in
      let b = first-yes _ _ (λ e. omega arith) a.1 in
      let c = first-yes _ _ (λ e. omega arith) b.1 in
      let d = depth-high q.depth a.0 in
      let s = and_both (luma_side_taken q.width) (luma_side_taken q.height) b.0 in
      record { deep = d.0; flat = d.1; wide = s.0; high = s.1; flags = c.0 }

  pub listed-is : (d : SignalledDamping) → picture_listed q ≡ true → picture_taken q d ≡ true → Listed q
  unfolding picture_listed picture_taken
  listed-is d l t =
      let a = and_both (eqb (length q.skip) (blocks q)) (eqb (length q.dirs) (blocks q) && variances_listed q.kind (blocks q)) l in
      let b = and_both (eqb (length q.dirs) (blocks q)) (variances_listed q.kind (blocks q)) a.1 in
      let c = and_both (all_below 2 q.skip) (all_below 8 q.dirs && (variances_taken q.kind && signalled_taken d)) t in
      let e = and_both (all_below 8 q.dirs) (variances_taken q.kind && signalled_taken d) c.1 in
      record { skip-long = eqb-true _ _ a.0; dirs-long = eqb-true _ _ b.0; vars-long = b.1; dirs-low = below_get 8 q.dirs e.0 (omega arith) }
