use Rattle.std.proofs.lemmas.Bool.Decides.{same_from_decides}
use Rattle.bool_values.proofs.HoldingLemmas.{holds_in-Decides}
use Rattle.bool_values.proofs.holding.holds_in.Goals as goal

pub returns : goal.returns
returns c = same_from_decides _ _ c.holds.ensures.exact (holds_in-Decides _ _ c.requires.no_refs)
