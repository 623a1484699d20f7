-- What stands at the front of a text.
use Rattle.std.proofs.Common.{◌≡◌, ℕ, ◌<◌, Bool, true, false, List, [], ◌∷◌, Some, None, length, refl, arith}
use Rattle.std.specs.List.{slice_get}
use Rattle.ere_tree.specs.Front.{begins_with}

pub begins_some : (test : ℕ → Bool) (text : List ℕ) (first : ℕ) → slice_get text 0 ≡ Some first →
    begins_with test text ≡ test first
unfolding begins_with
begins_some test [] first is = cc
begins_some test (b ∷ rest) first is = cc

pub begins_none : (test : ℕ → Bool) (text : List ℕ) → slice_get text 0 ≡ None → begins_with test text ≡ false
unfolding begins_with
begins_none test [] is = refl
begins_none test (b ∷ rest) is = cc

-- a text that begins with a byte isn't empty
pub begins_length : (test : ℕ → Bool) (text : List ℕ) → begins_with test text ≡ true → 0 < length text
unfolding begins_with
begins_length test [] is = cc
begins_length test (b ∷ rest) is = omega arith
