use Rattle.pattern_laws.proofs.RecallLemmas.{recall_is_nearest, recall_is_stored}
use Rattle.pattern_laws.proofs.TextLemmas.{recall_is_same_text}
use Rattle.pattern_laws.proofs.laws.law_of_recalls.Goals as goal

pub returns : goal.returns
returns c = record { nearest = recall_is_nearest; stored = recall_is_stored; same_text = recall_is_same_text }
