-- Where the questions of a frame call pass, what its core is given has the facts that its type states.
use Rattle.std.specs.Prelude.{◌≡◌, refl, true, ◌&&◌, List, ℕ, ◌*◌, ◌^◌, ◌<◌, leb, length, get_or}
use Rattle.std.proofs.Common.{leb-true}
use Rattle.cdef_spec.specs.declared.SignalledDamping.{SignalledDamping}
use Rattle.cdef_spec.specs.declared.Visible.{Visible}
use Rattle.cdef_spec.specs.WordsLaws.{and_both}
use Rattle.cdef_spec.specs.Document01.{Plane}
use Rattle.cdef_spec.specs.Picture.{Picture, plane_width, plane_height, plane_of}
use Rattle.cdef_spec.specs.Questions.{all_below, visible_taken, variances_taken, signalled_taken, picture_taken}
use Rattle.frame_shape.specs.Shape.{Sampled, Seen, InForce}

pub sampled : (q r : Picture) (p : Plane) (s : List ℕ) → q ≡ r → p ≡ plane_of r s → length s ≡ plane_width r * plane_height r → ((k : ℕ) → get_or s k 0 < 2 ^ r.depth) → Sampled q p
sampled q r p s e f l h = rw (e, f) (record { wide = refl; high = refl; long = l; low = h })

pub in-force : (q : Picture) (d : SignalledDamping) → picture_taken q d ≡ true → InForce d
unfolding picture_taken signalled_taken
in-force q d t =
    let a = and_both (all_below 2 q.skip) (all_below 8 q.dirs && (variances_taken q.kind && signalled_taken d)) t in
    let b = and_both (all_below 8 q.dirs) (variances_taken q.kind && signalled_taken d) a.1 in
    let c = and_both (variances_taken q.kind) (signalled_taken d) b.1 in
    let e = and_both (leb 3 d.0) (leb d.0 6) c.1 in
    record { least = leb-true 3 d.0 e.0; most = leb-true d.0 6 e.1 }

pub seen : (q r : Picture) (v : Visible) → q ≡ r → visible_taken r v ≡ true → Seen q v
unfolding visible_taken
seen q r v e t =
    let b = and_both (leb 1 v.width && leb v.width r.width) (leb 1 v.height && leb v.height r.height) t in
    let wide = leb-true v.width r.width (and_both (leb 1 v.width) (leb v.width r.width) b.0).1 in
    let high = leb-true v.height r.height (and_both (leb 1 v.height) (leb v.height r.height) b.1).1 in
    rw e (record { wide = wide; high = high })
