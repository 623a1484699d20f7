use Rattle.lit_tool.specs.Run.{tree}
use Rattle.lit_tool.proofs.NameLemmas.{all_named}
use Rattle.lit_tool.proofs.tests.all_from.Goals as goal

pub returns-in_ok-names-in-Ok-clause-value : goal.returns-in_ok-names-in-Ok-clause-value
returns-in_ok-names-in-Ok-clause-value g c =
    let seen = tree g.T.Tree c.args.from.now c.discover.new.tree in
    all_named seen c.args.asked.now c.in-Ok.found c.in_ok-names-in-Ok.field-0 c.unless_none.result c.requires.select
    c.requires.drop (rw c.as_slice.ensures at c.in-Ok.ensures.found) (c.in-Ok.ensures.tree.calm (λ e. cc))
    c.in_ok-names-in-Ok.ensures c.unless_none.ensures
