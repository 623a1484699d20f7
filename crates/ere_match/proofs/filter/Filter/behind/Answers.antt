use Rattle.std.proofs.Common.{◌+◌, arith}
use Rattle.std.specs.FinMap.{empty}
use Rattle.ere_tree.proofs.DerivationLemmas.{is_part}
use Rattle.ere_match.proofs.FilterLemmas.{lies_from, starts_behind}
use Rattle.ere_match.proofs.filter.Filter.behind.Goals as goal

pub returns-then-place-slice-clause-lies : goal.returns-then-place-slice-clause-lies
returns-then-place-slice-clause-lies c = λ t is h k v d high shows.
    let lies = is_part c.args.slice.now t v h k empty d shows in
    absurd (omega (arith, lies.0, lies.1, high, c.if-place-slice.true))

pub returns-clause-lies : goal.returns-clause-lies
returns-clause-lies c = λ t is.
    lies_from c.args.slice.now t is.free (c.args.place + 1) c.span_from.result (λ i low. omega (arith, c.type_inv.slice i))
    is.spans (c.span_from.ensures.found is.free is.built)

pub returns-clause-behind : goal.returns-clause-behind
returns-clause-behind c = λ t is.
    starts_behind c.args.slice.now is.free c.args.place c.span_from.result (c.span_from.ensures.found is.free is.built)

pub returns-clause-kept : goal.returns-clause-kept
returns-clause-kept c = λ t is. record {
  free = is.free;
  built = c.span_from.ensures.expression is.free is.built;
  spans = is.spans;
}
