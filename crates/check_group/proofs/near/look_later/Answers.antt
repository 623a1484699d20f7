use Rattle.std.proofs.Common.{Ok, sym, ◌∙◌}
use Rattle.check_group.proofs.NearLemmas.{later_none, later_some}
use Rattle.check_group.proofs.near.look_later.Goals as goal

pub returns-in-Some-clause-value : goal.returns-in-Some-clause-value
returns-in-Some-clause-value c = λ vars.
    let a = c.args in
    sym ((λ n. Ok (record { span = sym c.of.ensures n; fresh = sym c.new.ensures n })))
    ∙ later_some a.text.now a.needle.now a.from a.check.now vars a.later c.requires.plain c.requires.ordered c.requires.inside
    c.requires.nowhere c.in-Some.at c.in-Some.ensures

pub returns-in-None-clause-value : goal.returns-in-None-clause-value
returns-in-None-clause-value c = λ vars.
    let a = c.args in
    later_none a.text.now a.needle.now a.from a.check.now vars a.later c.requires.plain c.requires.ordered c.requires.inside
    c.requires.nowhere c.in-None.ensures
