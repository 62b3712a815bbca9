-- `still_pgm::decode::decode` meets its contract.
use Rattle.std.proofs.Common.{◌*◌, ◌≤◌, ◌≡◌, rules, refl, ℕ, ◌++◌, List, length, take, ◌∙◌, arith}
use Rattle.std.proofs.Math.Seq.{take_all}
use Rattle.std.proofs.lemmas.List.{take-append-le}
use Rattle.still_pgm.specs.SizesLaws.{taken}
use Rattle.still_pgm.specs.Planes.{decoded_plane}
use Rattle.still_pgm.proofs.decode.decode.Goals as goal

-- the whole of a vector that was lent is what came back
back : (n : ℕ) (a b : List ℕ) → n ≡ length a → take n (a ++ b) ≡ a
back n a b e = take-append-le n a b (omega (arith, e)) ∙ take_all n a (omega (arith, e))

pub overflow_mul-pitch : goal.overflow_mul-pitch
overflow_mul-pitch c =
    let room : c.pitch-pitch.result * c.rows.result ≤ 786432 = rw (c.pitch-pitch.ensures, c.rows.ensures) (taken _ _ c.args.f.taken).room in
    omega arith

pub fill-requires-clause-pitch_nonzero : goal.fill-requires-clause-pitch_nonzero
fill-requires-clause-pitch_nonzero c = omega (arith, c.pitch-pitch.ensures, (taken _ _ c.args.f.taken).width_low)

pub returns : goal.returns
unfolding decoded_plane
returns c =
    let zeros = c.in_ok-plane.ensures.items_if_clones_equal (λ y e. search rules) in
    back _ _ _ (omega (arith, c.fill.auto.plane, c.as_mut_slice.ensures.len)) ∙ c.fill.ensures ∙ rw (c.as_mut_slice.ensures.len, c.as_mut_slice.ensures.value, zeros, c.in_ok-plane.ensures.len, c.pitch-pitch.ensures, c.rows.ensures) refl
