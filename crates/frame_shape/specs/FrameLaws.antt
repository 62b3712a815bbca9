-- Laws of a block's filter parameters.
use Rattle.std.specs.Prelude.{◌≡◌, cond, List, ℕ, ◌-◌, eqb}
use Rattle.std.proofs.Math.Path.{refl}
use Rattle.cdef_spec.specs.Words.{◌<<◌}
use Rattle.cdef_spec.specs.declared.SignalledDamping.{SignalledDamping}
use Rattle.cdef_spec.specs.declared.UnitPair.{UnitPair}
use Rattle.cdef_spec.specs.Document01.{trial_pair, luma_params, chroma_params}
use Rattle.cdef_spec.specs.BlockCalls.{trial_params}
use Rattle.cdef_spec.proofs.TrialCallLaws.{trial-luma, trial-chroma}
use Rattle.cdef_spec.specs.Picture.{PlaneKind, luma, chroma, params_for}
use Rattle.frame_shape.specs.Frame.{way_of, dir_of, damping_of, primary_of}

-- a block's filter parameters, part by part
pub params_are : (k : PlaneKind) (depth : ℕ) (dirs : List ℕ) (d : SignalledDamping) (p : UnitPair) (b : ℕ)
    → params_for k depth dirs d p b ≡ record { pri = primary_of k depth b p.primary; sec = p.secondary << (depth - 8); dir = cond (eqb p.primary 0) 0 (dir_of k dirs b); damping = damping_of k d depth; depth = depth }
unfolding params_for primary_of dir_of damping_of luma_params chroma_params
params_are (luma vars) depth dirs d p b = refl
params_are (chroma sx sy) depth dirs d p b = refl

-- a block is tried with its pair's parameters
pub tried-with : (k : PlaneKind) (depth : ℕ) (dirs : List ℕ) (d : SignalledDamping) (t b : ℕ) → trial_params (way_of k b) depth (dir_of k dirs b) (damping_of k d depth) t ≡ params_for k depth dirs d (trial_pair t) b
unfolding way_of dir_of damping_of
tried-with (luma vars) depth dirs d t b = trial-luma vars depth dirs d t b
tried-with (chroma sx sy) depth dirs d t b = trial-chroma sx sy depth dirs d t b
