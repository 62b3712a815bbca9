-- `cdef_c::numbers::quern_luma_damping` meets its contract.
use Rattle.std.proofs.Common.{◌∙◌, ap, rules}
use Rattle.cdef_spec.specs.declared.WorkingDamping.{WorkingDamping}
use Rattle.cdef_spec.specs.Answers.{Result, number_of}
use Rattle.cdef_c.specs.Values.{value_or}
use Rattle.cdef_c.proofs.Mapped.{mapped-code, mapped-value}
use Rattle.cdef_c.proofs.numbers.quern_luma_damping.Goals as goal

pub returns : goal.returns
returns c =
    let old : WorkingDamping = record { 0 = c.args.out.now } in
    record {
      code = c.give.ensures.code ∙ mapped-code (λ (d : WorkingDamping). d.0) c.luma_damping.result c.map.result _ (λ x y k. search rules) c.map.ensures.cases ∙ ap number_of c.luma_damping.ensures;
      out_after = c.give.ensures.out_after ∙ mapped-value (λ (d : WorkingDamping). d.0) c.luma_damping.result c.map.result _ (λ x y k. search rules) old c.map.ensures.cases ∙ ap (λ (o : Result WorkingDamping). (value_or old o).0) c.luma_damping.ensures;
    }
