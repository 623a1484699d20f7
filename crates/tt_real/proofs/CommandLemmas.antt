-- What a variable that is set says of each name.
use Rattle.std.proofs.Common.{◌≡◌, ◌≢◌, ℕ, Bool, true, false, cond, List, ◌∷◌, Option, Some, refl, sym, ap, ◌∙◌}
use Rattle.std.specs.Str.{bytes_eq}
use Rattle.std.proofs.lemmas.Bool.{false≢true}
use Rattle.std.proofs.lemmas.Slice.Eq.{bytes_eq-Decides}
use Rattle.tt_outside.specs.declared.request.Pair.{Pair}
use Rattle.tt_real.specs.Command.{said_by}

-- a pair was set, and all other names were left as they were
pub said_next : (old new : List ℕ → Option (Option (List ℕ))) (pair : Pair) (rest : List Pair) (name : List ℕ)
    → new pair.name ≡ Some (Some pair.value) → ((other : List ℕ) → other ≢ pair.name → new other ≡ old other)
    → said_by rest name (new name) ≡ said_by (pair ∷ rest) name (old name)
said_next old new pair rest name set others = ap (said_by rest name) (by_test (bytes_eq pair.name name) refl)
  where
    by_test : (b : Bool) → bytes_eq pair.name name ≡ b → new name ≡ cond b (Some (Some pair.value)) (old name)
    by_test true e = ap new (sym ((bytes_eq-Decides pair.name name).0 e)) ∙ set
    by_test false e = others name (λ same. false≢true (sym e ∙ (bytes_eq-Decides pair.name name).1 (sym same)))
