-- Sets of places in four words: one place more, and the places of two sets. What is known of sets of bytes serves,
-- since a block has as many places as there are bytes.
use Rattle.std.proofs.Common.{◌≡◌, ℕ, ◌*◌, ◌^◌, ◌/◌, ◌%◌, ◌==◌, Bool, true, false, ◌&&◌, ◌||◌, List, [], ◌∷◌, length, slice_index, slice_set, bit_or, refl, sym, ap, ◌∙◌, arith}
use Rattle.std.proofs.lemmas.Bool.Decides.{nat_tests}
use Rattle.ere_tree.specs.View.{has_bit}
use Rattle.ere_tree.proofs.SetLemmas.{insert_has, union_has}

and_or : (b x y : Bool) → (b && (x || y)) ≡ ((b && x) || (b && y))
and_or true x y = refl
and_or false x y = refl

pub held_put : (block place q : ℕ) (xs : List ℕ) → length xs ≡ 4 → place / 256 ≡ block
    → (block == q / 256 && has_bit (slice_set xs (place % 256 / 64)
    (bit_or (slice_index xs (place % 256 / 64)) (1 * 2 ^ (place % 256 % 64) % 2 ^ 64))) (q % 256))
    ≡ ((block == q / 256 && has_bit xs (q % 256)) || (q == place && place / 256 == block))
held_put block place q xs four here =
    ap (λ v. block == q / 256 && v) (insert_has xs (place % 256) four (omega arith) (q % 256) (omega arith))
    ∙ and_or (block == q / 256) (has_bit xs (q % 256)) (q % 256 == place % 256)
    ∙ ap (λ v. (block == q / 256 && has_bit xs (q % 256)) || v) same
  where
    same : (block == q / 256 && q % 256 == place % 256) ≡ (q == place && place / 256 == block)
    same = grind (arith, nat_tests)

pub held_add : (block other q : ℕ) (xs ys : List ℕ) → other ≡ block
    → (block == q / 256 && has_bit
    (bit_or (slice_index xs 0) (slice_index ys 0) ∷ bit_or (slice_index xs 1) (slice_index ys 1) ∷
    bit_or (slice_index xs 2) (slice_index ys 2) ∷ bit_or (slice_index xs 3) (slice_index ys 3) ∷ []) (q % 256))
    ≡ ((block == q / 256 && has_bit xs (q % 256)) || (other == q / 256 && has_bit ys (q % 256)))
held_add block other q xs ys same =
    ap (λ v. block == q / 256 && v) (union_has xs ys (q % 256) (omega arith))
    ∙ and_or (block == q / 256) (has_bit xs (q % 256)) (has_bit ys (q % 256))
    ∙ ap (λ n. (block == q / 256 && has_bit xs (q % 256)) || (n == q / 256 && has_bit ys (q % 256))) (sym same)
