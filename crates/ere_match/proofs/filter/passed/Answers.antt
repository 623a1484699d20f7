use Rattle.std.proofs.Common.{ℕ, List, sym, subst}
use Rattle.std.specs.List.{All}
use Rattle.ere_reach.specs.Leads.{EndsNowhere}
use Rattle.ere_reach.specs.Rows.{IsIn}
use Rattle.ere_tree.specs.View.{view}
use Rattle.ere_match.proofs.StartsLemmas.{passes}
use Rattle.ere_match.proofs.filter.passed.Goals as goal

pub end_nowhere-requires-clause-places : goal.end_nowhere-requires-clause-places
end_nowhere-requires-clause-places c =
    let has = c.in_ok-starts.ensures c.args.slice.now (view c.args.ere.now) c.requires.line in
    subst (All (IsIn c.args.place c.in_ok-starts.starts.high)) (sym c.as_slice-places.ensures.value) has.inside

pub end_nowhere-requires-clause-inside : goal.end_nowhere-requires-clause-inside
end_nowhere-requires-clause-inside c =
    (c.in_ok-starts.ensures c.args.slice.now (view c.args.ere.now) c.requires.line).within

pub returns-in-Ok-true : goal.returns-in-Ok-true
returns-in-Ok-true c =
    let s = c.args.slice.now in
    let t = view c.args.ere.now in
    let starts = c.in_ok-starts.starts in
    passes s t c.args.place starts c.requires.before (c.in_ok-starts.ensures s t c.requires.line)
    (subst (λ (xs : List ℕ). EndsNowhere s t xs starts.high) c.as_slice-places.ensures.value
    (c.in-Ok-true.ensures c.in-Ok-true.field-0-test))
