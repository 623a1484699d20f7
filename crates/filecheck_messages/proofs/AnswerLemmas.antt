-- The answer of a verdict, whose annotated input stands behind its messages.
use Rattle.std.proofs.Common.{◌≡◌, List, ℕ, [], ◌∷◌, ◌++◌, Option, None, Some, append-nil, refl, ap, ◌∙◌}
use Rattle.filecheck_messages.specs.Answer.{telling, verdict_row, with_dump}
use Rattle.filecheck_messages.specs.Message.{told}
use Rattle.filecheck_messages.specs.Telling.{rows_in}
use Rattle.filecheck_messages.specs.declared.finding.Finding.{Finding}

with_rows : (findings : List Finding) (dumped : Option (List ℕ))
    → telling (verdict_row findings).status (told findings ++ rows_in dumped) ≡ with_dump (verdict_row findings) dumped
with_rows [] None = refl
with_rows [] (Some rows) = refl
with_rows (finding ∷ later) None = ap (telling 1) (append-nil (told (finding ∷ later)))
with_rows (finding ∷ later) (Some rows) = refl

pub found_is : (findings : List Finding) (dumped : Option (List ℕ)) (pieces rest : List ℕ) (status : ℕ) → pieces ≡ told findings
    → rest ≡ rows_in dumped → status ≡ (verdict_row findings).status → telling status (pieces ++ rest) ≡ with_dump (verdict_row findings) dumped
found_is findings dumped pieces rest status is rest_is status_is =
    ap (λ err. telling status (err ++ rest)) is ∙ ap (λ more. telling status (told findings ++ more)) rest_is
    ∙ ap (λ s. telling s (told findings ++ rows_in dumped)) status_is ∙ with_rows findings dumped
