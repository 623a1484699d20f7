-- Bytes in a row at the front of a text.
use Rattle.std.proofs.Common.{◌≡◌, ℕ, ◌<◌, Bool, true, true≢false, List, [], ◌∷◌, sym, arith}
use Rattle.std.specs.List.{prefix_len}
use Rattle.std.proofs.lemmas.Bool.Decides.{nat_tests}
use Rattle.ere_tree.specs.Front.{begins_with}
use Rattle.num_exprs.specs.Name.{begins_name, is_in_name}
use Rattle.num_exprs.specs.Row.{is_in_row}
use Rattle.num_exprs.specs.declared.row.Row.{Row}

-- a text that begins with a byte that passes has some in front
some_in_front : (test : ℕ → Bool) (text : List ℕ) → begins_with test text ≡ true → 0 < prefix_len test text
unfolding begins_with
some_in_front test [] h = absurd (true≢false (sym h))
some_in_front test (b ∷ text) h = rw h (omega arith)

pub row_begins : (row : Row) (text : List ℕ) → begins_with (is_in_row row) text ≡ true
    → 0 < prefix_len (is_in_row row) text
row_begins row text h = some_in_front (is_in_row row) text h

pub name_begins : (text : List ℕ) → begins_with begins_name text ≡ true → 0 < prefix_len is_in_name text
unfolding begins_with
name_begins [] h = absurd (true≢false (sym h))
name_begins (b ∷ text) h = let in_name : is_in_name b ≡ true = grind (arith, nat_tests) in rw in_name (omega arith)
