use Rattle.lead_laws.proofs.CanonLemmas.{canon_is_by_parts}
use Rattle.lead_laws.proofs.FormLemmas.{canon_is_by_lines, canon_is_settled}
use Rattle.lead_laws.proofs.laws.law_of_canon.Goals as goal

pub returns : goal.returns
returns c = record { parts = canon_is_by_parts; lines = canon_is_by_lines; settled = canon_is_settled }
