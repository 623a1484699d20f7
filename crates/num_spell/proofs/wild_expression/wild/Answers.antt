use Rattle.std.proofs.Common.{sym, subst}
use Rattle.num_spell.specs.Wild.{MatchesSpelled}
use Rattle.num_spell.proofs.WildLemmas.{wild_matches}
use Rattle.num_spell.proofs.wild_expression.wild.Goals as goal

pub returns-in-Ok-clause-matches : goal.returns-in-Ok-clause-matches
returns-in-Ok-clause-matches c =
    subst (MatchesSpelled c.args.format) (sym c.in-Ok.ensures) (wild_matches c.args.format)
