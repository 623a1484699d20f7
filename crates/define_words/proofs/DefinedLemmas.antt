-- Bindings one behind the other.
use Rattle.std.proofs.Common.{◌≡◌, ◌∙◌, ℕ, ℤ, List, [], ◌∷◌, ◌++◌, append_assoc, Some, None, Result, Ok, Err, refl, sym, ap}
use Rattle.std.specs.FinMap.{FinMap, get}
use Rattle.num_base.specs.Names.{name_cmp}
use Rattle.pattern_vars.specs.declared.binding.Binding.{Binding}
use Rattle.define_words.specs.Defined.{and_bindings, binding_of, fresh_by, numbers_with}
use Rattle.define_words.specs.Word.{Word}

-- bindings in front of others
abbrev pub behind : List Binding → Result (List Binding) (List ℕ) → Result (List Binding) (List ℕ)
behind done (Ok later) = Ok (done ++ later)
behind done (Err value) = Err value

one_behind : (done : List Binding) (binding : Binding) (later : Result (List Binding) (List ℕ))
    → behind (done ++ binding ∷ []) later ≡ behind done (and_bindings binding later)
one_behind done binding (Ok later) = ap Ok (append_assoc done (binding ∷ []) later)
one_behind done binding (Err value) = refl

-- a word that binds, and one that doesn't
pub binds : (numbers : FinMap name_cmp ℤ) (value : List ℕ) (word : Word) (words : List (List ℕ × Word))
    (binding : Binding)
    → binding_of (get numbers) word ≡ Some binding
    → fresh_by numbers ((value, word) ∷ words) ≡ and_bindings binding (fresh_by (numbers_with numbers binding) words)
unfolding fresh_by
binds numbers value word words binding is = rw (is, fresh_by) refl

pub binds_nothing : (numbers : FinMap name_cmp ℤ) (value : List ℕ) (word : Word) (words : List (List ℕ × Word))
    → binding_of (get numbers) word ≡ None → fresh_by numbers ((value, word) ∷ words) ≡ Err value
unfolding fresh_by
binds_nothing numbers value word words is = rw (is, fresh_by) refl

pub fresh_goes_on : (done : List Binding) (numbers : FinMap name_cmp ℤ) (value : List ℕ) (word : Word)
    (words : List (List ℕ × Word))
    (binding : Binding) → binding_of (get numbers) word ≡ Some binding
    → behind (done ++ binding ∷ []) (fresh_by (numbers_with numbers binding) words)
    ≡ behind done (fresh_by numbers ((value, word) ∷ words))
fresh_goes_on done numbers value word words binding is =
    one_behind done binding (fresh_by (numbers_with numbers binding) words)
    ∙ sym (ap (behind done) (binds numbers value word words binding is))

pub fresh_stops : (done : List Binding) (numbers : FinMap name_cmp ℤ) (value : List ℕ) (word : Word)
    (words : List (List ℕ × Word))
    → binding_of (get numbers) word ≡ None → behind done (fresh_by numbers ((value, word) ∷ words)) ≡ Err value
fresh_stops done numbers value word words is = ap (behind done) (binds_nothing numbers value word words is)
