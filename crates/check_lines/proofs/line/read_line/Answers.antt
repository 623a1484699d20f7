use Rattle.std.proofs.Common.{ap, length, subst, ◌∙◌}
use Rattle.check_lines.specs.Decision.{MarkLies}
use Rattle.check_lines.specs.declared.decision.LineMark.TheVariants.{Check}
use Rattle.check_lines.specs.declared.suffix.Spelling.TheVariants.{Good}
use Rattle.check_lines.proofs.line.read_line.Goals as goal

pub returns-in-Good-clause-among : goal.returns-in-Good-clause-among
returns-in-Good-clause-among c =
    let count = length c.args.rules.now.prefixes.checks.prefixes.now in
    let line = c.args.line.now in
    let at = c.in-Some.found.at in
    let lies : MarkLies count line at (Check c.in-Check.prefix (Good c.in-Good.suffix)) =
    subst (MarkLies count line at) (c.in-Check.is ∙ ap (Check c.in-Check.prefix) c.in-Good.is) c.in-Some.ensures.lies in
    c.checked.ensures.among count lies.2
