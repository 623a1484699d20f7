-- How many tests are kept.
use Rattle.std.proofs.Common.{◌≡◌, ℕ, ◌+◌, ◌≤◌, Bool, true, false, if◌then◌else◌, List, [], ◌∷◌, length, Option, Some, None, IfOk, Result, Ok, Err, arith, subst, sym}
use Rattle.std.specs.List.{filter}
use Rattle.ere_tree.specs.Tree.{Tree}
use Rattle.lit_select.specs.Selection.{chooses, chosen_by, selected}
use Rattle.lit_words.specs.Asked.{Wanted}
use Rattle.lit_words.specs.declared.number.Shard.{Shard}
use Rattle.tt_outside.specs.declared.test_data.Test.{Test}
use Rattle.lit_tool.specs.Kept.{has_place, kept_of, shard_from, unless_none}
use Rattle.lit_tool.specs.declared.stop.LitStop.{LitStop}

longer : {A : Type 0} (b : Bool) (x : A) (xs ys : List A) → length xs ≤ length ys
    → length (if b then x ∷ xs else xs) ≤ length (x ∷ ys)
longer true x xs ys few = omega (arith, few)
longer false x xs ys few = omega (arith, few)

filter_few : {A : Type 0} (test : A → Bool) (xs : List A) → length (filter test xs) ≤ length xs
filter_few test [] = omega arith
filter_few test (x ∷ xs) = longer (test x) x (filter test xs) xs (filter_few test xs)

chosen_few : (is_wanted : Bool) (tree : Option Tree) (tests : List Test) → length (chosen_by is_wanted tree tests) ≤ length tests
chosen_few is_wanted None tests = omega arith
chosen_few is_wanted (Some tree) tests = filter_few (chooses is_wanted tree) tests

selected_few : (keep drop : Option Tree) (tests : List Test) → length (selected keep drop tests) ≤ length tests
selected_few keep drop tests =
    (let first = chosen_few true keep tests in
    let second = chosen_few false drop (chosen_by true keep tests) in omega (arith, first, second))

shard_few : {A : Type 0} (s : Shard) (place : ℕ) (xs : List A) → length (shard_from s place xs) ≤ length xs
shard_few s place [] = omega arith
shard_few s place (x ∷ xs) =
    longer (has_place s place) x (shard_from s (place + 1) xs) xs (shard_few s (place + 1) xs)

unless_few : (shard : Option Shard) (tests : List Test) (n : ℕ) → length tests ≤ n
    → IfOk (unless_none shard tests) (λ kept. length kept ≤ n)
unless_few shard [] n few = tt
unless_few None (test ∷ tests) n few = few
unless_few (Some s) (test ∷ tests) n few =
    (let shorter = shard_few s 0 (test ∷ tests) in omega (arith, shorter, few))

-- no more tests are kept than were found
pub kept_few : {E : Type 0} (wanted : Wanted) (tests : List Test) (n : ℕ) (result : Result (Result (List Test) LitStop) E)
    → length tests ≤ n → IfOk result (λ kept. kept ≡ kept_of wanted tests)
    → IfOk result (λ kept. IfOk kept (λ some. length some ≤ n))
kept_few wanted tests n (Err fault) few is = tt
kept_few wanted tests n (Ok kept) few is =
    subst (λ (k : Result (List Test) LitStop). IfOk k (λ some. length some ≤ n)) (sym is)
    (unless_few wanted.shard (selected wanted.select wanted.drop tests) n
    (let shorter = selected_few wanted.select wanted.drop tests in omega (arith, shorter, few)))
