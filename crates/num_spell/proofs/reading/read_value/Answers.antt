use Rattle.std.proofs.Common.{◌∙◌}
use Rattle.num_spell.proofs.ReadLemmas.{read_found, read_only}
use Rattle.num_spell.proofs.reading.read_value.Goals as goal

pub returns-clause-found : goal.returns-clause-found
returns-clause-found c = read_found c.args.format c.args.text.now c.read_spelled.result c.read_spelled.ensures

pub returns-clause-only : goal.returns-clause-only
returns-clause-only c = λ v spells is. c.read_spelled.ensures ∙ read_only c.args.format c.args.text.now v spells is
