use Rattle.inner_answers.proofs.InsideLemmas.{broken_inside, fits_inside}
use Rattle.inner_laws.proofs.InsideLemmas.{one_reply}
use Rattle.inner_laws.proofs.NotLemmas.{not_inverts}
use Rattle.inner_laws.proofs.laws.law_of_inner_replies.Goals as goal

pub returns : goal.returns
returns c = record { fit = fits_inside; fault = broken_inside; one = one_reply; inverse = not_inverts }
