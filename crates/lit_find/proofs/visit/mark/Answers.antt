use Rattle.lit_find.proofs.Names.{ap, ◌∙◌, list_any, same_text}
use Rattle.lit_find.proofs.KeyLemmas.{has_inserted}
use Rattle.lit_find.proofs.visit.mark.Goals as goal

pub returns : goal.returns
returns c = λ text.
    ap (list_any (λ key. same_text text key.items)) c.in-Ok.ensures.keys
    ∙ has_inserted c.args.walked.now.keys c.args.path text
