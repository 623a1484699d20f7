use Rattle.std.proofs.Common.{drop, length, sym, ap, subst, arith}
use Rattle.ere_tree.specs.Derivation.{Spans}
use Rattle.ere_tree.specs.View.{view}
use Rattle.ere_tree.proofs.DerivationLemmas.{is_part}
use Rattle.ere_captures.specs.Best.{AreBestCaps}
use Rattle.ere_match.proofs.HitLemmas.{no_hit, tells_hit}
use Rattle.ere_match.proofs.search.Search.find.Goals as goal

pub returns-in_default-clause-hit : goal.returns-in_default-clause-hit
returns-in_default-clause-hit g c =
    no_hit (drop c.args.from c.args.text.now) (view c.args.ere.now) c.in_default.ensures.found.span

pub captures-requires-clause-span : goal.captures-requires-clause-span
captures-requires-clause-span g c =
    let span = c.in-Some.span in
    subst (λ s. Spans s (view c.args.ere.now) span.from span.to) (sym c.split_at.ensures.back)
    c.in-Some.ensures.found.span.0.matches

pub overflow_add-result : goal.overflow_add-result
overflow_add-result g c =
    let found = c.in-Some.ensures.found.span in
    let span = c.in-Some.span in
    let (w, d, e, shows) = found.0.matches in
    let lies = is_part (drop c.args.from c.args.text.now) (view c.args.ere.now) w span.from span.to d e shows in
    omega (arith, lies.0, found.1, ap length c.split_at.ensures.back, c.split_at.ensures.back_len)

pub returns-in-Ok-clause-hit : goal.returns-in-Ok-clause-hit
returns-in-Ok-clause-hit g c =
    let span = c.in-Some.span in
    let t = view c.args.ere.now in
    let groups = c.in-Ok.groups in
    tells_hit c.args.text.now t c.args.from span.from span.to groups c.in-Some.ensures.found.span.0
    (subst (λ s. AreBestCaps s t span.from span.to c.args.from groups) c.split_at.ensures.back c.in-Ok.ensures)
