-- The bytes that a prefix may begin with.
-- Own form, for speed alone: no prefix is looked for at a place whose byte begins none.
use Rattle.std.specs.Prelude.{◌≡◌, ◌<◌, ℕ, Bool, true, false, List, [], ◌∷◌, All, slice_index_or}
use Rattle.tt_base.specs.Occurrence.{begins_with}

-- where a prefix stands the flag of its first byte is set
abbrev pub HasHead : List Bool → List ℕ → Type 0
HasHead heads prefix =
    (byte : ℕ) (rest : List ℕ) → byte < 256 → begins_with (byte ∷ rest) prefix ≡ true → slice_index_or heads byte false ≡ true

-- this holds of all prefixes
abbrev pub AreHeads : List Bool → List (List ℕ) → Type 0
AreHeads heads prefixes = All (HasHead heads) prefixes

-- flags that are set stay set
abbrev pub HeadsStay : List Bool → List Bool → Type 0
HeadsStay old new = (byte : ℕ) → slice_index_or old byte false ≡ true → slice_index_or new byte false ≡ true

-- whether a prefix may stand at the front of a text
abbrev pub may_begin : List Bool → List ℕ → Bool
may_begin heads [] = true
may_begin heads (byte ∷ rest) = slice_index_or heads byte false
