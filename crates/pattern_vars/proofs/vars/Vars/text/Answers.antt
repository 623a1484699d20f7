use Rattle.std.proofs.Common.{ap, ◌∙◌}
use Rattle.pattern_vars.specs.Vars.{text_in}
use Rattle.pattern_vars.proofs.VarsLemmas.{held_under}
use Rattle.pattern_vars.proofs.vars.Vars.text.Goals as goal

pub returns-in-Some : goal.returns-in-Some
returns-in-Some c =
    c.as_ref.ensures.value
    ∙ ap text_in (held_under c.self.inside.held.entries c.args.name.now c.self.view_is c.in-Some.ensures.value)

pub returns-in-None : goal.returns-in-None
returns-in-None c =
    ap text_in (held_under c.self.inside.held.entries c.args.name.now c.self.view_is c.in-None.ensures.value)
