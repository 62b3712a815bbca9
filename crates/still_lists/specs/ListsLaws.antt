-- Laws of the sizes of the lists: the room that they need, and a list's first elements.
use Rattle.std.specs.Prelude.{◌≡◌, refl, List, ℕ, ◌+◌, ◌-◌, ◌*◌, ◌/◌, ◌≤◌, length, take}
use Rattle.std.proofs.Common.{mul-le-mul, le_trans, arith, length-take}
use Rattle.still_pgm.specs.Sizes.{padded}
use Rattle.still_pgm.specs.SizesLaws.{Taken}
use Rattle.still_lists.specs.declared.Counts.{Counts}
use Rattle.still_lists.specs.Lists.{along, Counted}

-- the first elements of a list are as many as requested
pub part_length : {A : Type 0} (l : List A) (n : ℕ) → n ≤ length l → n ≡ length (take n l)
part_length l n h = omega (arith, length-take n l)

module _ (w h : ℕ) (t : Taken w h) where
  width-high : padded w ≤ 4096
  width-high = omega (arith, t.width-high)

  height-high : padded h ≤ 4096
  height-high = omega (arith, t.height-high)

  pub blocks-room : (padded w / 8) * (padded h / 8) ≤ 12288
  blocks-room =
      let a : padded w / 8 * 8 ≡ padded w = omega arith in
      let b : padded h / 8 * 8 ≡ padded h = omega arith in
      let c : padded w / 8 * 8 * (padded h / 8 * 8) ≤ 786432 = rw (a, b) t.room in
      omega arith

  -- units that are whole along both sides are at most 192, and each side has at most one more
  pub units-room : along (padded w) * along (padded h) ≤ 320
  units-room = go (along (padded w) - 1) (along (padded h) - 1) (omega (arith, t.width_low)) (omega (arith, t.height-low)) (omega arith) (omega arith) (omega (arith, width-high)) (omega (arith, height-high))
    where
      go : (a b : ℕ) → along (padded w) ≡ a + 1 → along (padded h) ≡ b + 1 → a * 64 ≤ padded w → b * 64 ≤ padded h → a ≤ 63 → b ≤ 63 → along (padded w) * along (padded h) ≤ 320
      go a b e f p q x y =
          let c : a * 64 * (b * 64) ≤ padded w * padded h = mul-le-mul p q in
          let d : a * 64 * (b * 64) ≤ 786432 = le_trans c t.room in
          rw (e, f) (omega arith)

  -- the counts, from the padded sides
  pub counted : (n : Counts) → n.width ≡ padded w → n.height ≡ padded h → Counted w h n
  counted n e f = record {
    width = e;
    height = f;
    samples = rw (e, f) refl;
    blocks = rw (e, f) refl;
    units = rw (e, f) refl;
    totals = refl;
    scratch = rw e refl;
    samples-room = rw (e, f) t.room;
    blocks-room = rw (e, f) blocks-room;
    units-room = rw (e, f) units-room;
    width_room = rw e width-high;
  }
