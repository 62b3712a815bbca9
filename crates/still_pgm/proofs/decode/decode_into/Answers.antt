-- `still_pgm::decode::decode_into` meets its contract.
use Rattle.std.proofs.Common.{◌*◌, ◌≤◌, ◌≡◌, ◌∙◌, ◌++◌, refl, ℕ, List, sym, ap, arith, length, length-take-le, take, drop, cond, is_none, true}
use Rattle.std.proofs.lemmas.List.{take-append-drop}
use Rattle.still_pgm.specs.SizesLaws.{taken, padded_room}
use Rattle.still_pgm.specs.Planes.{decoded_plane, stored, padded_sample}
use Rattle.still_pgm.specs.Sizes.{is_taken, padded}
use Rattle.still_pgm.specs.PlanesLaws.{stored_front}
use Rattle.still_pgm.proofs.decode.decode_into.Goals as goal

-- the front that is filled lies in the plane
front-long : (plane : List ℕ) (w h pitch rows : ℕ) → 786432 ≤ length plane → is_taken w h ≡ true → pitch ≡ padded w → rows ≡ padded h → length (take (pitch * rows) plane) ≡ pitch * rows
front-long plane w h pitch rows room t p r = length-take-le _ plane (omega (arith, padded_room w h pitch rows t p r))

pub overflow_mul-pitch : goal.overflow_mul-pitch
overflow_mul-pitch c = omega (arith, padded_room _ _ _ _ c.in_ok-format.format.taken c.pitch-pitch.ensures c.rows.ensures)

pub slice_bounds-fill-end : goal.slice_bounds-fill-end
slice_bounds-fill-end c = omega (arith, c.requires, padded_room _ _ _ _ c.in_ok-format.format.taken c.pitch-pitch.ensures c.rows.ensures)

pub slice_bounds-fill-end-2 : goal.slice_bounds-fill-end-2
slice_bounds-fill-end-2 c = sym (front-long c.args.plane.now _ _ _ _ c.requires c.in_ok-format.format.taken c.pitch-pitch.ensures c.rows.ensures)

pub fill-requires-clause-pitch_nonzero : goal.fill-requires-clause-pitch_nonzero
fill-requires-clause-pitch_nonzero c = omega (arith, c.pitch-pitch.ensures, (taken _ _ c.in_ok-format.format.taken).width_low)

pub returns-clause-plane_after : goal.returns-clause-plane_after
unfolding decoded_plane
returns-clause-plane_after c =
    let plane = c.args.plane.now in
    let n = c.pitch-pitch.result * c.rows.result in
    let f = padded_sample c.args.samples.now c.args.header c.pitch-pitch.result in
    let len : length (take n plane) ≡ n = front-long _ _ _ _ _ c.requires c.in_ok-format.format.taken c.pitch-pitch.ensures c.rows.ensures in
    let whole : c.fill.new.plane ++ drop n plane ≡ stored f n plane =
    ap (λ l. l ++ drop n plane) (c.fill.ensures ∙ ap (λ k. stored f k (take n plane)) len)
    ∙ sym (stored_front f n (take n plane) (drop n plane) (omega (arith, len))) ∙ ap (stored f n) (take-append-drop n plane) in
    let decoded : stored f n plane ≡ decoded_plane c.args.samples.now c.args.header plane = rw (c.pitch-pitch.ensures, c.rows.ensures, c.in_ok-format.ensures.0) refl in
    whole ∙ decoded ∙ ap (λ o. cond (is_none o) (decoded_plane c.args.samples.now c.args.header plane) plane) c.in_ok-format.ensures.1
