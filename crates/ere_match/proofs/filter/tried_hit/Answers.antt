use Rattle.std.proofs.Common.{ℕ, List, drop, subst}
use Rattle.ere_refs.specs.Over.{TellsBest}
use Rattle.ere_tree.specs.View.{view}
use Rattle.ere_match.proofs.FilterLemmas.{hit_is, no_hit_at}
use Rattle.ere_match.proofs.filter.tried_hit.Goals as goal

pub returns-in-None : goal.returns-in-None
returns-in-None c =
    let t = view c.args.ere.now in
    let span = c.args.span in
    let tells = subst (λ (x : List ℕ). TellsBest x t c.args.from span.from span.to c.in_ok-try_from.field-0)
    c.split_at.ensures.back c.in_ok-try_from.ensures in
    no_hit_at (drop c.args.from c.args.text.now) t c.args.from span c.requires.lies
    (subst (TellsBest (drop c.args.from c.args.text.now) t c.args.from span.from span.to) c.in-None.is tells)

pub returns-in-Some : goal.returns-in-Some
returns-in-Some c =
    let t = view c.args.ere.now in
    let span = c.args.span in
    let tells = subst (λ (x : List ℕ). TellsBest x t c.args.from span.from span.to c.in_ok-try_from.field-0)
    c.split_at.ensures.back c.in_ok-try_from.ensures in
    hit_is c.args.text.now t c.args.from span c.in-Some.found c.requires.lies
    (subst (TellsBest (drop c.args.from c.args.text.now) t c.args.from span.from span.to) c.in-Some.is tells)
