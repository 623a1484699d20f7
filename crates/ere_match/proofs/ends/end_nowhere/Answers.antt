use Rattle.std.proofs.Common.{arith}
use Rattle.ere_tree.specs.View.{view}
use Rattle.ere_match.proofs.EndsLemmas.{in_turn, nowhere_by}
use Rattle.ere_match.proofs.ends.end_nowhere.Goals as goal

pub returns-in-Ok-true : goal.returns-in-Ok-true
returns-in-Ok-true c = λ none.
    let one = c.index.result.now in
    let stands = c.in_ok-singles.ensures one
    (in_turn c.in_ok-singles.singles.items c.saturating_add.result c.len-count.result one
    (omega (arith, c.len-count.ensures, c.in_ok-singles.singles.ok.0)) (omega (arith, c.loop-turn-test.true))
    c.index.ensures) in
    nowhere_by c.args.slice.now (view c.args.ere.now) (view one) c.args.places.now c.args.span.to
    (λ i low. omega (arith, c.type_inv.slice i)) stands (c.in-Ok-true.ensures c.in-Ok-true.field-0-test)
