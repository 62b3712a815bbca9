-- The padded plane of a file, and a plane as bytes. Definitions only.
use Rattle.std.specs.Prelude.{ℕ, zero, suc, ◌+◌, ◌-◌, ◌*◌, ◌/◌, ◌%◌, min, Bool, cond, List, eqb, get_or, set}
use Rattle.still_pgm.specs.declared.header.Header.{Header}
use Rattle.still_pgm.specs.Sizes.{step_of, padded}

-- f 0, f 1, .. f (n - 1) stored as the first n elements of a list
unfoldable pub stored : (ℕ → ℕ) → ℕ → List ℕ → List ℕ
stored f zero l = l
stored f (suc n) l = set (stored f n l) n (f n)

-- the sample that k precede: one byte, or two with the high one first
unfoldable pub sample_at : List ℕ → ℕ → ℕ → ℕ
sample_at samples step k = cond (eqb step 1) (get_or samples k 0) (get_or samples (2 * k) 0 * 256 + get_or samples (2 * k + 1) 0)

-- sample k of a plane whose rows are `pitch` long: past the last row and column the nearest sample repeats
unfoldable pub padded_sample : List ℕ → Header → ℕ → ℕ → ℕ
padded_sample samples h pitch k =
    sample_at samples (step_of h.maximum) (min (k / pitch) (h.height - 1) * h.width + min (k % pitch) (h.width - 1))

-- a plane after decoding: the padded plane of a sound file at its start
unfoldable pub decoded_plane : List ℕ → Header → List ℕ → List ℕ
decoded_plane samples h l = stored (padded_sample samples h (padded h.width)) (padded h.width * padded h.height) l

-- the last byte of a sample, or the one before it
unfoldable pub byte_of : ℕ → Bool → ℕ
byte_of sample last = cond last (sample % 256) (sample / 256)

-- byte k of the samples: rows of `width` samples out of a plane whose rows are `pitch` long, `step` bytes per sample
unfoldable pub file_byte : List ℕ → ℕ → ℕ → ℕ → ℕ → ℕ
file_byte plane width pitch step k =
    let sample = k / step in
    byte_of (get_or plane (sample / width * pitch + sample % width) 0) (eqb (k % step + 1) step)
