use Rattle.std.proofs.Common.{ℕ, List, drop, subst}
use Rattle.ere_reach.specs.Leads.{TellsEnd}
use Rattle.ere_tree.specs.View.{view}
use Rattle.ere_match.proofs.HitSpanLemmas.{ends_there, none_ends}
use Rattle.ere_match.proofs.filter.span_at.Goals as goal

pub returns-in-None : goal.returns-in-None
returns-in-None c =
    let s = drop c.args.from c.args.text.now in
    let t = view c.args.ere.now in
    let span = c.args.span in
    let tells = subst (λ (x : List ℕ). TellsEnd x t span.from span.to c.in_ok-end_at.field-0) c.split_at.ensures.back
    c.in_ok-end_at.ensures in
    none_ends s t span c.requires.lies (subst (TellsEnd s t span.from span.to) c.in-None.is tells)

pub returns-in-Some : goal.returns-in-Some
returns-in-Some c =
    let s = drop c.args.from c.args.text.now in
    let t = view c.args.ere.now in
    let span = c.args.span in
    let tells = subst (λ (x : List ℕ). TellsEnd x t span.from span.to c.in_ok-end_at.field-0) c.split_at.ensures.back
    c.in_ok-end_at.ensures in
    ends_there c.args.text.now t c.args.from span c.in-Some.to c.requires.lies
    (subst (TellsEnd s t span.from span.to) c.in-Some.is tells)
