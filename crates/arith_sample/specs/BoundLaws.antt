-- Laws of lists whose entries are bounded.
use Rattle.std.specs.Prelude.{List, ℕ}
use Rattle.std.proofs.Common.{⊎_elim, arith}
use Rattle.arith_sample.specs.Bounds.{Held, Marked}

pub marked-held : {l : List ℕ} → Marked l → Held l
marked-held m = record { all = λ k. ⊎_elim (λ h. omega arith) (λ e. omega arith) (m.all k) }
