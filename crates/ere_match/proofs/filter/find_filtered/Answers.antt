-- What the filter told is kept from try to try: no hit begins before the place at hand. Each try moves that place.
-- The text behind `from` is what the filter saw, so its facts are carried over by the split (`split_at`).
-- The hard one is `loop-found-preserved`: a try that found nothing rules out its own place.
use Rattle.std.proofs.Common.{◌+◌, drop, length, sym, ap, subst, arith}
use Rattle.ere_match.proofs.FilterLemmas.{fewer, may_lie, no_hit_begins, no_hit_behind}
use Rattle.ere_match.specs.Begins.{NoneBefore}
use Rattle.ere_match.specs.Filter.{MayLie}
use Rattle.ere_match.specs.Starts.{TellsTried}
use Rattle.ere_slow.specs.Slow.{HasNoHitBefore}
use Rattle.ere_tree.specs.View.{view}
use Rattle.ere_match.proofs.filter.find_filtered.Goals as goal

pub returns-then-begin-slice-clause-hit : goal.returns-then-begin-slice-clause-hit
returns-then-begin-slice-clause-hit g c =
    let s = drop c.args.from c.args.text.now in
    let t = view c.args.ere.now in
    let begin = c.earliest-begin.result in
    let none = subst (λ x. NoneBefore x t begin) c.split_at.ensures.back c.earliest-begin.ensures in
    no_hit_behind s t begin (no_hit_begins s t begin none)
    (omega (arith, c.if-begin-slice.true, ap length c.split_at.ensures.back))

pub loop-found-init : goal.loop-found-init
loop-found-init g c =
    let s = c.split_at.result.1.now in
    let t = view c.args.ere.now in
    let is = c.in_ok-filter.ensures t c.in-Ok.ensures.spans in
    record {
      no_refs = c.in-Ok.ensures.no_refs;
      spans = c.in-Ok.ensures.spans;
      built = c.first-found.ensures.kept t is;
      lies = may_lie s t c.earliest-begin.result c.first-found.result
          (no_hit_begins s t c.earliest-begin.result c.earliest-begin.ensures) (c.first-found.ensures.lies t is);
    }

pub loop-found-smaller : goal.loop-found-smaller
loop-found-smaller g c =
    let s = c.split_at.result.1.now in
    let t = view c.args.ere.now in
    let lies = subst (MayLie s t) c.in-Some.is c.loop-found.invariant.lies in
    let built = c.loop-found.invariant.built in
    let a = c.args in
    let passed = subst (TellsTried a.asked a.text.now t a.from c.in-Some.span.from) c.in-Ok-Passed.field-0-is
    c.in-Ok-Passed.ensures in
    fewer (length s) c.in-Some.span c.in-Ok-Passed.last c.loop-found.found c.behind-found.result c.in-Some.is
    (omega (arith, lies.1.0, lies.1.1)) passed.0 (c.behind-found.ensures.behind t built)

pub loop-found-preserved : goal.loop-found-preserved
loop-found-preserved g c =
    let s = c.split_at.result.1.now in
    let t = view c.args.ere.now in
    let last = c.in-Ok-Passed.last in
    let built = c.loop-found.invariant.built in
    let a = c.args in
    let passed = subst (TellsTried a.asked a.text.now t a.from c.in-Some.span.from) c.in-Ok-Passed.field-0-is
    c.in-Ok-Passed.ensures in
    record {
      no_refs = c.loop-found.invariant.no_refs;
      spans = c.loop-found.invariant.spans;
      built = c.behind-found.ensures.kept t built;
      lies = may_lie s t (last + 1) c.behind-found.result
          (subst (λ x. HasNoHitBefore x t (last + 1)) (sym c.split_at.ensures.back) passed.1)
          (c.behind-found.ensures.lies t built);
    }

pub returns-in-Ok-Hit-clause-most : goal.returns-in-Ok-Hit-clause-most
returns-in-Ok-Hit-clause-most g c =
    let t = view c.args.ere.now in
    omega (
      arith,
      c.first-found.ensures.most t (c.in_ok-filter.ensures t c.in-Ok.ensures.spans),
      c.split_at.ensures.back_len,
    )

pub returns-in-Err-clause-most : goal.returns-in-Err-clause-most
returns-in-Err-clause-most g c =
    let t = view c.args.ere.now in
    omega (
      arith,
      c.first-found.ensures.most t (c.in_ok-filter.ensures t c.in-Ok.ensures.spans),
      c.split_at.ensures.back_len,
    )

pub returns-clause-most : goal.returns-clause-most
returns-clause-most g c =
    let t = view c.args.ere.now in
    omega (
      arith,
      c.first-found.ensures.most t (c.in_ok-filter.ensures t c.in-Ok.ensures.spans),
      c.split_at.ensures.back_len,
    )
