use Rattle.std.proofs.Common.{◌∙◌, drop, sym, arith}
use Rattle.std.proofs.lemmas.List.{length-drop}
use Rattle.ere_tree.specs.View.{view}
use Rattle.ere_tree.proofs.DerivationLemmas.{is_part}
use Rattle.ere_match.proofs.HitLemmas.{no_hit}
use Rattle.ere_match.proofs.HitSpanLemmas.{span_lies}
use Rattle.ere_match.proofs.search.hit_span.Goals as goal

pub returns-in-None-span-clause-span : goal.returns-in-None-span-clause-span
returns-in-None-span-clause-span g c =
    no_hit (drop c.args.from c.args.text.now) (view c.args.ere.now) c.in-None-span.ensures.found.span

pub overflow_add-result : goal.overflow_add-result
overflow_add-result g c =
    let found = c.in-Some-span.ensures.found.span in
    let span = c.in-Some-span.span in
    let (w, d, e, shows) = found.0.matches in
    let lies = is_part (drop c.args.from c.args.text.now) (view c.args.ere.now) w span.from span.to d e shows in
    omega (arith, lies.0, found.1, length-drop c.args.from c.args.text.now, c.requires.inside)

pub returns-clause-span : goal.returns-clause-span
returns-clause-span g c =
    span_lies c.args.text.now (view c.args.ere.now) c.args.from c.in-Some-span.span
    (sym c.has_refs.ensures ∙ c.if-has_refs.false) c.in-Some-span.ensures.found.span
