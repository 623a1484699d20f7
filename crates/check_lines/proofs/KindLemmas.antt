-- Kinds by their suffixes.
use Rattle.std.proofs.Common.{◌≡◌, ◌∙◌, ℕ, ◌+◌, ◌<◌, suc, Bool, false, cond, List, Some, drop, drop-cons, length, get_or, add-one, sym, ap}
use Rattle.std.specs.List.{find}

-- an element that doesn't pass is passed over
pub find_more : {X : Type 0} → (p : X → Bool) (xs : List X) (k : ℕ) (d : X) → k < length xs → p (get_or xs k d) ≡ false
    → find p (drop (k + 1) xs) ≡ find p (drop k xs)
find_more p xs k d inside fails =
    ap (λ n. find p (drop n xs)) (add-one k)
    ∙ sym (ap (find p) (drop-cons xs k d inside) ∙ ap (λ b. cond b (Some (get_or xs k d)) (find p (drop (suc k) xs))) fails)
