-- `cdef_c::numbers::quern_damping` meets its contract.
use Rattle.std.proofs.Common.{◌∙◌, ap, rules}
use Rattle.cdef_spec.specs.declared.SignalledDamping.{SignalledDamping}
use Rattle.cdef_spec.specs.Answers.{Result, number_of}
use Rattle.cdef_c.specs.Values.{value_or}
use Rattle.cdef_c.proofs.Mapped.{mapped-code, mapped-value}
use Rattle.cdef_c.proofs.numbers.quern_damping.Goals as goal

pub returns : goal.returns
returns c =
    let old : SignalledDamping = record { 0 = c.args.out.now } in
    record {
      code = c.give.ensures.code ∙ mapped-code (λ (d : SignalledDamping). d.0) c.damping.result c.map.result _ (λ x y k. search rules) c.map.ensures.cases ∙ ap number_of c.damping.ensures;
      out_after = c.give.ensures.out_after ∙ mapped-value (λ (d : SignalledDamping). d.0) c.damping.result c.map.result _ (λ x y k. search rules) old c.map.ensures.cases ∙ ap (λ (o : Result SignalledDamping). (value_or old o).0) c.damping.ensures;
    }
