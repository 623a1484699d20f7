use Rattle.lead_laws.proofs.MarkLemmas.{leads_decide_nothing}
use Rattle.lead_laws.proofs.laws.law_of_marks.Goals as goal

pub returns : goal.returns
returns c = record { leads = leads_decide_nothing }
