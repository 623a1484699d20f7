use Rattle.std.proofs.Common.{◌∙◌, rules}
use Rattle.num_base.specs.Term.{term_of}
use Rattle.pattern_vars.specs.Vars.{number_of}
use Rattle.pattern_instance.proofs.GatherLemmas.{gathered_agree}
use Rattle.pattern_instance.proofs.part.evaluated.Goals as goal

pub returns : goal.returns
returns c =
    c.eval.ensures
    ∙ gathered_agree (number_of c.args.vars.now) c.args.line (term_of c.args.expr.now) _ (search rules)
