use Rattle.std.proofs.Common.{ℕ, List, Some, drop, sym, subst}
use Rattle.ere_match.specs.Filter.{MayLie}
use Rattle.ere_match.specs.declared.filter.Try.{Try}
use Rattle.ere_reach.specs.Leads.{TellsEnd}
use Rattle.ere_tree.specs.View.{view}
use Rattle.ere_match.proofs.HitSpanLemmas.{lies_to, none_ends}
use Rattle.ere_match.proofs.filter.hit_at.Goals as goal

pub returns-in-Ok-None : goal.returns-in-Ok-None
returns-in-Ok-None c =
    let s = drop c.args.one.from c.args.text.now in
    let t = view c.args.ere.now in
    let span = c.args.one.span in
    let tells = subst (λ (x : List ℕ). TellsEnd x t span.from span.to c.in-Ok-None.field-0) c.split_at.ensures.back
    c.in-Ok-None.ensures in
    none_ends s t span c.requires.lies (subst (TellsEnd s t span.from span.to) c.in-Ok-None.field-0-is tells)

pub some_tries-requires-clause-lies : goal.some_tries-requires-clause-lies
some_tries-requires-clause-lies c =
    let s = drop c.args.one.from c.args.text.now in
    let t = view c.args.ere.now in
    let span = c.args.one.span in
    let tells = subst (λ (x : List ℕ). TellsEnd x t span.from span.to c.in-Ok-Some.field-0) c.split_at.ensures.back
    c.in-Ok-Some.ensures in
    subst (λ (one : Try). MayLie (drop one.from c.args.text.now) t (Some one.span)) (sym c.up_to.ensures)
    (lies_to s t span c.in-Ok-Some.to c.requires.lies
    (subst (TellsEnd s t span.from span.to) c.in-Ok-Some.field-0-is tells))
