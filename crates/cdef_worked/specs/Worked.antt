-- The worked lines marked P (RULES, Worked lines), each a test on the definitions; and the one claim that all of them hold.
use Rattle.std.specs.Prelude.{Bool, true, false, cond, ◌&&◌, List, [], ◌∷◌, ℕ, T, eqb, ℤ, pos, negsuc, replicate}
use Rattle.cdef_spec.specs.declared.FilterParams.{FilterParams}
use Rattle.cdef_spec.specs.Words.{for, sum_ℤ, sum, table, every}
use Rattle.cdef_spec.specs.Standard.{floor_log2_below, floor_log2, clip3, with_sign, adjust_pri, line_of, partial, div_table, square, cost_straight, cost_diagonal, cost_between, cost, better, best, direction, variance, cdef_directions, cdef_pri_taps, cdef_sec_taps, constrain, add_tap, filter_taps, rounded, unclipped, cdef_filter}
use Rattle.cdef_spec.specs.Document01.{Plane, unmarked, available, or_else, damping_from1, filter_centre, filtered, edge_sample, direction_input, block_direction, block_variance}

abbrev same_z : ℤ → ℤ → Bool
same_z (pos a) (pos b) = eqb a b
same_z (pos a) (negsuc b) = false
same_z (negsuc a) (pos b) = false
same_z (negsuc a) (negsuc b) = eqb a b

unfoldable pub all_of : List Bool → Bool
all_of [] = true
all_of (b ∷ bs) = b && all_of bs

-- 8 by 8, all 130
unfoldable pub flat130 : Plane
flat130 = record { samples = replicate 64 130; width = 8; height = 8 }

-- 5 by 5 of 101 with centre 100; strengths 4, 2, damping 3, depth 8
unfoldable pub dented : Plane
dented = record { samples = table 25 (λ k. cond (eqb k 12) 100 101); width = 5; height = 5 }

unfoldable pub dented_with : ℕ → FilterParams
dented_with dir = record { pri = 4; sec = 2; dir = dir; damping = record { 0 = 3 }; depth = 8 }

unfoldable pub worked_lines : List Bool
worked_lines =
    -- constrain(3, 4, damping 3) = 3; (−5, 4, 3) = −2; (7, 4, 3) = 1; (8, 4, 3) = 0
    same_z (constrain (pos 3) 4 3) (pos 3)
    ∷ same_z (constrain (negsuc 4) 4 3) (negsuc 1)
    ∷ same_z (constrain (pos 7) 4 3) (pos 1)
    ∷ same_z (constrain (pos 8) 4 3) (pos 0)
    -- constrain(63, 1, 6) = 1; (64, 1, 6) = 0
    ∷ same_z (constrain (pos 63) 1 6) (pos 1)
    ∷ same_z (constrain (pos 64) 1 6) (pos 0)
    -- adjust(1, 1023) = 0; (1, 1024) = 1; (4, 63) = 1; (4, 860160) = 4
    ∷ eqb (adjust_pri 1 1023) 0
    ∷ eqb (adjust_pri 1 1024) 1
    ∷ eqb (adjust_pri 4 63) 1
    ∷ eqb (adjust_pri 4 860160) 4
    -- rounding: sums 7, 8, −7, −8 give 0, 1, 0, −1
    ∷ same_z (rounded (pos 7)) (pos 0)
    ∷ same_z (rounded (pos 8)) (pos 1)
    ∷ same_z (rounded (negsuc 6)) (pos 0)
    ∷ same_z (rounded (negsuc 7)) (negsuc 0)
    -- 8 by 8, all 130, depth 8: direction 0, variance 0
    ∷ eqb (block_direction flat130 8 0 0) 0
    ∷ eqb (block_variance flat130 8 0 0) 0
    -- 5 by 5 of 101 with centre 100, any direction: 102 before the clip, 101 after it
    ∷ every 8 (λ dir. same_z (unclipped (available dented) (dented_with dir) 2 2 100) (pos 102))
    ∷ every 8 (λ dir. eqb (or_else 0 (filtered dented (dented_with dir) 2 2)) 101)
    ∷ []

pub worked-lines-hold : T (all_of worked_lines)
unfolding all_of worked_lines flat130 dented dented_with table every unmarked available or_else damping_from1 filter_centre filtered cdef_filter unclipped filter_taps add_tap cdef_directions cdef_pri_taps cdef_sec_taps floor_log2_below floor_log2 clip3 with_sign adjust_pri constrain rounded edge_sample direction_input block_direction block_variance direction variance best better cost cost_between cost_diagonal cost_straight square div_table partial line_of sum sum_ℤ for
worked-lines-hold = tt
