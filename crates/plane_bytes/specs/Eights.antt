-- Two rows of eight samples of a plane whose samples are bytes. Definitions only.
use Rattle.std.specs.Prelude.{◌≡◌, ℕ, ◌<◌, ◌≤◌, List, slice_index}
use Rattle.plane_taps.specs.Runs.{at_by}
use Rattle.filter_rows.specs.declared.Strength.{Strength}
use Rattle.plane_rows.specs.Rows.{pri_in, sec_in}

-- every sample of l is below 256, so that none is marked
pub record AllByte (l : List ℕ) : Type 0 where
  pub all : (k : ℕ) → slice_index l k < 256

-- strengths of depth 8, neither of them 0, shifts below 8; the primary taps are weighted near (3 or 4) and 6 - near
pub record Strong8 (s sh near s2 sh2 : ℕ) : Type 0 where
  pub pri : s ≤ 15
  pub some : 1 ≤ s
  pub pri-shift : sh < 8
  pub least : 3 ≤ near
  pub most : near ≤ 4
  pub sec : s2 ≤ 4
  pub some2 : 1 ≤ s2
  pub sec-shift : sh2 < 8

-- the same of two strengths; the secondary taps are weighted 2 and 1
pub record StrongBytes (f g : Strength) : Type 0 where
  pub strong : Strong8 f.s f.sh f.w0 g.s g.sh
  pub pri : pri_in f.s f.sh f.w0 ≡ f
  pub sec : sec_in g.s g.sh ≡ g

-- the index of sample j (row j / 8, column j % 8) of two rows of eight whose first sample is at k, in a plane w wide
abbrev pub eight_at : ℕ → ℕ → ℕ → ℕ
eight_at w k j = at_by 8 w k j
