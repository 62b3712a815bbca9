-- The filter accepts the parameters of every pair.
use Rattle.std.specs.Prelude.{◌≡◌, refl, Bool, true, false, cond, List, ℕ, ◌-◌, ◌≤◌, ◌<◌, eqb, get_or}
use Rattle.std.proofs.Common.{arith}
use Rattle.cdef_spec.specs.declared.SignalledDamping.{SignalledDamping}
use Rattle.cdef_spec.specs.declared.UnitPair.{UnitPair}
use Rattle.cdef_spec.specs.declared.FilterParams.{FilterParams}
use Rattle.cdef_spec.specs.Words.{◌<<◌}
use Rattle.cdef_spec.specs.ChromaLaws.{chroma-low}
use Rattle.cdef_spec.specs.Standard.{chroma_direction}
use Rattle.cdef_spec.specs.Document01.{luma_damping, chroma_damping, luma_params, chroma_params}
use Rattle.cdef_spec.specs.Picture.{PlaneKind, luma, chroma, params_for}
use Rattle.arith_strength.specs.StrengthLaws.{limit-low, adjust-low}
use Rattle.filter_block.specs.Store.{Usable}
use Rattle.frame_shape.specs.Shape.{InForce}

or-zero : (b : Bool) (i : ℕ) → i < 8 → cond b 0 i < 8
or-zero true i h = omega arith
or-zero false i h = h

pub usable : (k : PlaneKind) (depth : ℕ) (dirs : List ℕ) (d : SignalledDamping) (p : UnitPair) (b : ℕ) → 8 ≤ depth → depth ≤ 12 → p.primary ≤ 15 → p.secondary ≤ 4 → InForce d → get_or dirs b 0 < 8 → Usable (params_for k depth dirs d p b)
unfolding params_for luma_params chroma_params luma_damping chroma_damping
usable (luma vars) depth dirs d p b deep flat hp hs hd h = record {
  pri = omega (arith, adjust-low (p.primary << (depth - 8)) (get_or vars b 0), limit-low p.primary depth hp flat);
  sec = limit-low p.secondary depth (omega arith) flat;
  dir = or-zero (eqb p.primary 0) (get_or dirs b 0) h;
  damping = omega (arith, hd.most);
  deep = deep;
  flat = flat;
}
usable (chroma sx sy) depth dirs d p b deep flat hp hs hd h = record {
  pri = limit-low p.primary depth hp flat;
  sec = limit-low p.secondary depth (omega arith) flat;
  dir = or-zero (eqb p.primary 0) (chroma_direction sx sy (get_or dirs b 0)) (chroma-low sx sy (get_or dirs b 0) h);
  damping = omega (arith, hd.most);
  deep = deep;
  flat = flat;
}

-- a block's depth is the picture's
depth-of : (k : PlaneKind) (depth : ℕ) (dirs : List ℕ) (d : SignalledDamping) (p : UnitPair) (b : ℕ) → (params_for k depth dirs d p b).depth ≡ depth
unfolding params_for luma_params chroma_params
depth-of (luma vars) depth dirs d p b = refl
depth-of (chroma sx sy) depth dirs d p b = refl

pub depth-kept : (k : PlaneKind) (depth : ℕ) (dirs : List ℕ) (d : SignalledDamping) (p : UnitPair) (b : ℕ) (q : FilterParams) → q ≡ params_for k depth dirs d p b → q.depth ≡ depth
depth-kept k depth dirs d p b q e = rw e (depth-of k depth dirs d p b)
