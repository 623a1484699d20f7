use Rattle.std.proofs.Common.{subst, arith}
use Rattle.ere_auto.specs.Span.{IsSpan}
use Rattle.ere_match.proofs.FilterLemmas.{lies_from, shown_most}
use Rattle.ere_match.proofs.filter.Filter.first.Goals as goal

pub returns-clause-lies : goal.returns-clause-lies
returns-clause-lies g c = λ t is.
    let s = c.args.slice.now in
    let finds = c.find_span.ensures.found is.free (c.begin_at.ensures.fresh is.free is.built) in
    lies_from s t is.free c.args.place c.find_span.result (λ i low. omega (arith, c.type_inv.slice i)) is.spans
    (subst (λ b. IsSpan s is.free b c.find_span.result) c.begin_at.ensures.begin finds.span)

pub returns-clause-most : goal.returns-clause-most
returns-clause-most g c = λ t is.
    let finds = c.find_span.ensures.found is.free (c.begin_at.ensures.fresh is.free is.built) in
    omega (arith, shown_most _ _ c.find_span.result finds.shown_for, c.find_span.ensures.counted)

pub returns-clause-kept : goal.returns-clause-kept
returns-clause-kept g c = λ t is. record {
  free = is.free;
  built = c.find_span.ensures.expression is.free (c.begin_at.ensures.fresh is.free is.built);
  spans = is.spans;
}
