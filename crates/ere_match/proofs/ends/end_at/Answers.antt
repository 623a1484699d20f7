use Rattle.std.proofs.Common.{Some, subst}
use Rattle.std.proofs.lemmas.Result.{IfOk-weaker}
use Rattle.ere_match.specs.Ends.{IsBound}
use Rattle.ere_reach.specs.Leads.{TellsEnd}
use Rattle.ere_tree.specs.View.{view}
use Rattle.ere_match.proofs.EndsLemmas.{matches_all, told_within}
use Rattle.ere_match.proofs.ends.end_at.Goals as goal

pub returns-in-Ok-true : goal.returns-in-Ok-true
returns-in-Ok-true c =
    matches_all c.args.slice.now (view c.args.ere.now) c.args.span.from c.args.span.to
    (c.in-Ok-true.ensures.found c.in-Ok-true.field-0-test)

pub returns-in-Ok-true-is_between : goal.returns-in-Ok-true-is_between
returns-in-Ok-true-is_between c =
    let s = c.args.slice.now in
    let t = view c.args.ere.now in
    let span = c.args.span in
    let high = c.in-Some.high in
    let known = subst (IsBound s t span.from span.to) c.in-Some.is c.in_ok-high.ensures in
    told_within s t span.from high span.to (Some high) known
    (matches_all s t span.from high (c.in-Ok-true-is_between.ensures.found c.in-Ok-true-is_between.field-0-test))

pub returns : goal.returns
returns c =
    let s = c.args.slice.now in
    let t = view c.args.ere.now in
    let span = c.args.span in
    let high = c.in-Some.high in
    let known = subst (IsBound s t span.from span.to) c.in-Some.is c.in_ok-high.ensures in
    IfOk-weaker c.greatest.result (TellsEnd s t span.from high) (TellsEnd s t span.from span.to)
    (λ found told. told_within s t span.from high span.to found known told) c.greatest.ensures
