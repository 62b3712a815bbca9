-- `cdef_agree::agree_units` meets its contract.
use Rattle.std.proofs.Common.{◌≡◌, Err, rules, sym}
use Rattle.cdef_agree.specs.declared.NotCompared.TheVariants.{Trying, Applying, Measuring}
use Rattle.cdef_agree.specs.Agree.{read_agreement, read_not_compared}
use Rattle.cdef_agree.specs.ByLaws.{agrees-so}
use Rattle.cdef_agree.specs.WayLaws.{handed, was_done, trying-stops, pairs-stop, applying-stops, measuring-stops, all-agree}
use Rattle.cdef_agree.proofs.agree_units.Goals as goal

pub returns-in_err-map_err-clause-outcome : goal.returns-in_err-map_err-clause-outcome
unfolding read_agreement read_not_compared
returns-in_err-map_err-clause-outcome g c =
    let s : c.from_residual.result ≡ Err c.in_err-map_err.field-0.0 = search rules in
    let r = handed Trying _ _ c.map_err.ensures.cases _ c.in_err-map_err.was in
    rw (s, r.2) (trying-stops _ _ _ _ _ _ _ _ _ _ _ _ _ _ c.try_units.ensures r.0 r.1)

pub returns-then-not-trial_pairs-clause-outcome : goal.returns-then-not-trial_pairs-clause-outcome
unfolding read_agreement read_not_compared
returns-then-not-trial_pairs-clause-outcome g c =
    let t = was_done Trying _ _ c.map_err.ensures.cases _ c.in_ok-map_err.was in
    pairs-stop _ _ _ _ _ _ _ _ _ _ _ _ _ _ c.try_units.ensures t.0 t.1 (sym c.if-not-trial_pairs.ensures)

pub returns-in_err-map_err-2-clause-outcome : goal.returns-in_err-map_err-2-clause-outcome
unfolding read_agreement read_not_compared
returns-in_err-map_err-2-clause-outcome g c =
    let t = was_done Trying _ _ c.map_err.ensures.cases _ c.in_ok-map_err.was in
    let s : c.from_residual-in_err-map_err-2.result ≡ Err c.in_err-map_err-2.field-0.0 = search rules in
    let r = handed Applying _ _ c.map_err-2.ensures.cases _ c.in_err-map_err-2.was in
    rw (s, r.2) (applying-stops _ _ _ _ _ _ _ _ _ _ _ _ _ _ c.try_units.ensures t.0 t.1 (sym c.if-not-trial_pairs.ensures) _ _ (rw c.copy.ensures at c.apply_pairs.ensures) r.0 r.1)

pub returns-in_err-map_err-3-clause-outcome : goal.returns-in_err-map_err-3-clause-outcome
unfolding read_agreement read_not_compared
returns-in_err-map_err-3-clause-outcome g c =
    let t = was_done Trying _ _ c.map_err.ensures.cases _ c.in_ok-map_err.was in
    let a = was_done Applying _ _ c.map_err-2.ensures.cases _ c.in_ok-map_err-2.was in
    let s : c.from_residual-in_err-map_err-3.result ≡ Err c.in_err-map_err-3.field-0.0 = search rules in
    let r = handed Measuring _ _ c.map_err-3.ensures.cases _ c.in_err-map_err-3.was in
    rw (s, r.2) (measuring-stops _ _ _ _ _ _ _ _ _ _ _ _ _ _ c.try_units.ensures t.0 t.1 (sym c.if-not-trial_pairs.ensures) _ _ (rw c.copy.ensures at c.apply_pairs.ensures) a.0 a.1 _ _ _ c.measure_units.ensures r.0 r.1)

pub returns-clause-outcome : goal.returns-clause-outcome
unfolding read_agreement
returns-clause-outcome g c =
    let t = was_done Trying _ _ c.map_err.ensures.cases _ c.in_ok-map_err.was in
    let a = was_done Applying _ _ c.map_err-2.ensures.cases _ c.in_ok-map_err-2.was in
    let m = was_done Measuring _ _ c.map_err-3.ensures.cases _ c.in_ok-map_err-3.was in
    all-agree _ _ _ _ _ _ _ _ _ _ _ _ _ _ c.try_units.ensures t.0 t.1 (sym c.if-not-trial_pairs.ensures) _ _ (rw c.copy.ensures at c.apply_pairs.ensures) a.0 a.1 _ _ _ c.measure_units.ensures m.0 m.1

pub returns-clause-agrees : goal.returns-clause-agrees
returns-clause-agrees g c =
    let laws = g.met.P.Pairs.laws in
    let t = was_done Trying _ _ c.map_err.ensures.cases _ c.in_ok-map_err.was in
    let a = was_done Applying _ _ c.map_err-2.ensures.cases _ c.in_ok-map_err-2.was in
    let m = was_done Measuring _ _ c.map_err-3.ensures.cases _ c.in_ok-map_err-3.was in
    agrees-so _ _ _ _ _ _ _ _ (λ n e. laws.as-many c.args.pairs.now n e) (λ n e. laws.taken-is c.args.pairs.now n e) _ _ _ _ _ _ _ _
    (all-agree _ _ _ _ _ _ _ _ _ _ _ _ _ _ c.try_units.ensures t.0 t.1 (sym c.if-not-trial_pairs.ensures) _ _ (rw c.copy.ensures at c.apply_pairs.ensures) a.0 a.1 _ _ _ c.measure_units.ensures m.0 m.1)
