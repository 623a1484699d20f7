use Rattle.std.proofs.Common.{◌-◌, Some, subst, arith}
use Rattle.ere_one.specs.Walk.{TellsLongest}
use Rattle.ere_tree.specs.View.{view}
use Rattle.ere_match.specs.Begins.{NoneBefore}
use Rattle.ere_match.specs.Shown.{Finds}
use Rattle.ere_match.proofs.ShownLemmas.{finds_from_start, finds_longest, spans_within}
use Rattle.ere_match.proofs.search.Search.span.Goals as goal

pub split_at-requires-in-Ends : goal.split_at-requires-in-Ends
split_at-requires-in-Ends g c =
    let slice = c.split_at.result.1.now in
    let t = view c.args.ere.now in
    let begin = c.earliest-begin.result in
    let longest = subst (TellsLongest slice t begin) c.in-Ends.is c.walk.ensures in
    spans_within slice t begin c.in-Ends.to longest.0

pub returns-in-Ends-clause-found : goal.returns-in-Ends-clause-found
returns-in-Ends-clause-found g c =
    let slice = c.split_at.result.1.now in
    let t = view c.args.ere.now in
    let begin = c.earliest-begin.result in
    let to = c.in-Ends.to in
    let waited = c.wait_through-shown in
    let shown = waited.new.steps - c.args.steps.now in
    let longest = subst (TellsLongest slice t begin) c.in-Ends.is c.walk.ensures in
    let within = spans_within slice t begin to longest.0 in
    let front = c.split_at-in-Ends.ensures.front_len in
    subst (λ s. Finds s t 0 (Some (record { from = begin; to = to })) shown) c.split_at.ensures.back
    (finds_longest slice t begin to shown c.earliest-begin.ensures longest
    (omega (arith, waited.ensures.count, waited.ensures.counted, c.begin_at.ensures.begin, front, within)))

pub returns-clause-found : goal.returns-clause-found
returns-clause-found g c =
    let t = view c.args.ere.now in
    let begin = c.earliest-begin.result in
    let result = c.find_span.result in
    let shown = c.find_span.new.steps - c.args.steps.now in
    let found = c.find_span.ensures.found t (c.begin_at-2.ensures.fresh t c.requires.built) in
    let slice = c.split_at.ensures.back in
    finds_from_start _ t begin result shown (subst (λ s. NoneBefore s t begin) slice c.earliest-begin.ensures)
    (subst (λ s. Finds s t begin result shown) slice
    (subst (λ b. Finds c.split_at.result.1.now t b result shown) c.begin_at-2.ensures.begin found))
