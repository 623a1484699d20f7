-- A set of places that gets one more.
use Rattle.std.proofs.Common.{◌≡◌, ℕ, ◌*◌, ◌/◌, ◌%◌, ◌^◌, ◌<◌, Bool, true, false, ◌&&◌, ◌||◌, ◌==◌, List, length, slice_index, slice_set, bit_or, ap, ◌∙◌, arith}
use Rattle.std.proofs.lemmas.Bool.Decides.{nat_tests}
use Rattle.ere_tree.specs.View.{has_bit}
use Rattle.ere_tree.proofs.SetLemmas.{has_bit-set}
use Rattle.ere_places.specs.Seen.{is_beyond, distance}
use Rattle.ere_places.specs.declared.window.Direction.{Direction}
use Rattle.ere_places.specs.declared.window.Direction.TheVariants.{Ahead, Back}

-- on one side of a base, places are as far from it where they are one
same_distance : (direction : Direction) (base place q : ℕ) → is_beyond direction base place ≡ true → (v : Bool) →
    (is_beyond direction base q && (v || distance direction base q == distance direction base place))
    ≡ ((is_beyond direction base q && v) || q == place)
same_distance Ahead base place q here true = grind (arith, nat_tests)
same_distance Ahead base place q here false = grind (arith, nat_tests)
same_distance Back base place q here true = grind (arith, nat_tests)
same_distance Back base place q here false = grind (arith, nat_tests)

pub put_held : (direction : Direction) (base place at word : ℕ) (old grown : List ℕ) (q : ℕ) →
    is_beyond direction base place ≡ true → at ≡ distance direction base place → at / 64 < length grown →
    word ≡ slice_index grown (at / 64) → ((b : ℕ) → has_bit grown b ≡ has_bit old b) →
    (is_beyond direction base q && has_bit (slice_set grown (at / 64)
    (bit_or word (1 * 2 ^ (at % 64) % 2 ^ 64))) (distance direction base q))
    ≡ ((is_beyond direction base q && has_bit old (distance direction base q)) || q == place)
put_held direction base place at word old grown q here is within read same =
    let to = distance direction base q in
    ap (λ v. is_beyond direction base q && v)
    (ap (λ w. has_bit (slice_set grown (at / 64) (bit_or w (1 * 2 ^ (at % 64) % 2 ^ 64))) to) read
    ∙ has_bit-set grown at within to
    ∙ (λ n. same to n || to == is n))
    ∙ same_distance direction base place q here (has_bit old to)
