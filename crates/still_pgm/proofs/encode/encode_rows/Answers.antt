-- `still_pgm::encode::encode_rows` meets its contract.
use Rattle.std.proofs.Common.{rules, ◌≡◌, ◌+◌, ◌*◌, ◌/◌, ◌%◌, get_or, eqb, eq-eqb, ne_eqb, sym, ap, ◌∙◌, arith}
use Rattle.still_pgm.specs.PlanesLaws.{stored_none, stored_more, byte_is}
use Rattle.still_pgm.specs.Planes.{byte_of}
use Rattle.still_pgm.proofs.encode.encode_rows.Goals as goal
use Rattle.still_pgm.proofs.encode.encode_rows.Goals.{then-k-step, else-k-step}

pub loop-k-init : goal.loop-k-init
loop-k-init c = sym (stored_none _ _)

pub loop-k-preserved : goal.loop-k-preserved
unfolding byte_of
loop-k-preserved c =
    let sample : c.unwrap_or.result ≡ get_or c.args.plane.now (c.loop-k.k / c.args.step / c.args.width * c.args.pitch + c.loop-k.k / c.args.step % c.args.width) 0 = search rules in
    let last = eqb (c.loop-k.k % c.args.step + 1) c.args.step in
    let byte : c.if-k-step.byte ≡ byte_of c.unwrap_or.result last = elim c.if-k-step.branch [
      | then-k-step w ↦ rw (eq-eqb _ _ w.if-k-step.true) (w.byte-is ∙ ap (λ l. get_or l 1 0) c.to_be_bytes.ensures)
      | else-k-step w ↦
          let high : c.unwrap_or.result / 256 % 256 ≡ c.unwrap_or.result / 256 = omega arith in
          rw (ne_eqb _ _ w.if-k-step.false) (w.byte-is ∙ ap (λ l. get_or l 0 0) c.to_be_bytes.ensures ∙ high)
    ] in
    stored_more _ _ _ _ _ c.loop-k.invariant (byte_is _ _ _ _ _ _ _ sample byte)
