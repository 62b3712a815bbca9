-- `plane_rows::row` meets its contract.
use Rattle.std.proofs.Common.{◌∙◌, rules, ℕ, ◌+◌, get_or}
use Rattle.arith_sample.specs.FromFn.{from-each}
use Rattle.arith_sample.specs.Upto.{upto-ext}
use Rattle.arith_sample.specs.Sample.{free_of}
use Rattle.filter_rows.specs.Sums.{pri_at, sec_at, filtered_at}
use Rattle.plane_rows.specs.LaneLaws.{kernel-none, kernel-sec, kernel-pri, kernel-both}
use Rattle.plane_rows.proofs.row.Goals as goal

pub returns-in-0-eq0 : goal.returns-in-0-eq0
returns-in-0-eq0 c =
    from-each (λ (j : ℕ). get_or c.args.src.now (c.args.k + j) 0) _ (λ i y q e. search rules) _ 8 c.from_fn.ensures.items
    ∙ upto-ext _ _ 8 (λ j l. kernel-none _ _ _ _ _ c.in-0-eq0.is-0 c.in-0-eq0.is-1)

pub returns-in-0-default : goal.returns-in-0-default
returns-in-0-default c =
    from-each (λ (j : ℕ). free_of (get_or c.args.src.now (c.args.k + j) 0) (sec_at c.args.src.now (c.args.k + j) c.args.t c.args.g)) _ (λ i y q e. search rules) _ 8 c.from_fn-in-0-default.ensures.items
    ∙ upto-ext _ _ 8 (λ j l. kernel-sec _ _ _ _ _ c.in-0-default.is-0 c.in-0-default.is-1.1)

pub returns-in_default-eq0 : goal.returns-in_default-eq0
returns-in_default-eq0 c =
    from-each (λ (j : ℕ). free_of (get_or c.args.src.now (c.args.k + j) 0) (pri_at c.args.src.now (c.args.k + j) c.args.t c.args.f)) _ (λ i y q e. search rules) _ 8 c.from_fn-in_default-eq0.ensures.items
    ∙ upto-ext _ _ 8 (λ j l. kernel-pri _ _ _ _ _ c.in_default-eq0.is-0.1 c.in_default-eq0.is-1)

pub returns-in_default : goal.returns-in_default
returns-in_default c =
    from-each (λ (j : ℕ). filtered_at c.args.src.now (c.args.k + j) c.args.t c.args.f c.args.g) _ (λ i y q e. search rules) _ 8 c.from_fn-in_default.ensures.items
    ∙ upto-ext _ _ 8 (λ j l. kernel-both _ _ _ _ _ c.in_default.is-0.1 c.in_default.is-1.1)
