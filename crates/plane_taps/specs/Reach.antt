-- Taps that lie in a list of len samples. Definitions only.
use Rattle.std.specs.Prelude.{ℕ, ◌+◌, ◌^◌, ◌<◌, ◌≤◌}
use Rattle.filter_rows.specs.Place.{on_from, back_from}
use Rattle.filter_rows.specs.declared.Taps.{Taps}
use Rattle.plane_taps.specs.Steps.{Reach}

-- the tap at an offset from k, and the opposite one
pub record Reached (len k o : ℕ) : Type 0 where
  pub on : on_from k o < len
  pub back : back_from k o < len

pub record Reached6 (len k : ℕ) (t : Taps) : Type 0 where
  pub p0 : Reached len k t.p0
  pub p1 : Reached len k t.p1
  pub q0 : Reached len k t.q0
  pub q1 : Reached len k t.q1
  pub r0 : Reached len k t.r0
  pub r1 : Reached len k t.r1

-- n samples from k on, in a list that has m more on each side, at most 4096 by 4096 in all; o leads at most m away
pub record Along (len k n o : ℕ) : Type 0 where
  pub m : ℕ
  pub low : m ≤ k
  pub high : k + n + m ≤ len
  pub small : len ≤ 2 ^ 24
  pub reach : Reach m o

pub record Around (len k n : ℕ) (t : Taps) : Type 0 where
  pub p0 : Along len k n t.p0
  pub p1 : Along len k n t.p1
  pub q0 : Along len k n t.q0
  pub q1 : Along len k n t.q1
  pub r0 : Along len k n t.r0
  pub r1 : Along len k n t.r1
