-- What a list has behind a front that stays.
use Rattle.std.proofs.Common.{ℕ, ◌≡◌, ◌+◌, List, ◌++◌, take, drop, arith, ap, ◌∙◌, sym}
use lib.Seq.{take-take}
use Rattle.std.proofs.lemmas.List.{drop-take, take-append-drop}

-- a front, and the items behind it
pub front_and_more : (old xs ys : List ℕ) (front count : ℕ) → old ≡ take front xs → take front ys ≡ take front xs
    → take (front + count) ys ≡ old ++ take count (drop front ys)
front_and_more old xs ys front count was same =
    sym (take-append-drop front (take (front + count) ys))
    ∙ ap (λ l. l ++ drop front (take (front + count) ys))
    (take-take front (front + count) ys (omega arith) ∙ same ∙ sym was)
    ∙ ap (λ l. old ++ l) (drop-take front count ys)
