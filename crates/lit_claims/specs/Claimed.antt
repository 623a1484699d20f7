-- The rule of the word from which workers draw numbers.
-- Own rule: all seats together have the numbers below the word, each once. Their shares add up to 64, and a seat has at most
-- as many late numbers as shares, so that the word stays small.
use Rattle.std.specs.Prelude.{ℕ, ◌≡◌, ◌+◌, ◌≤◌, ◌<◌, min, List, [], ◌∷◌, ◌++◌, length, slice_index}
use Rattle.std.specs.List.{All, sum_by}
use Rattle.lit_claims.specs.Counted.{count_below}
use Rattle.lit_claims.specs.declared.view.View.{View}

-- a seat draws only while its numbers are below this one; numbers from it on are late
abbrev pub MAX_DRAWN : ℕ
MAX_DRAWN = 100000

-- how many shares there are
abbrev pub SHARES : ℕ
SHARES = 64

abbrev pub view_of : ℕ → List ℕ → View
view_of share drawn = record { share = share; drawn = drawn }

-- at most as many late numbers as shares, and without a share none at all
abbrev pub IsFair : View → Type 0
IsFair v = (length v.drawn ≤ count_below MAX_DRAWN v.drawn + v.share) × (v.share ≡ 0 → v.drawn ≡ [])

-- The rule. There is one word, and below each bound all seats together drew the numbers that lie below both it and the word.
pub record Claimed (words : List ℕ) (views : List View) : Type 0 where
  pub one : length words ≡ 1
  pub below : (bound : ℕ) → sum_by (λ v. count_below bound v.drawn) views ≡ min bound (slice_index words 0)
  pub drawn : sum_by (λ v. length v.drawn) views ≡ slice_index words 0
  pub shares : sum_by (λ v. v.share) views ≡ SHARES
  pub fair : All IsFair views

-- a step draws the number that it finds, which is greater than the seat's earlier ones
abbrev pub AddsDraw : View → ℕ → View → Type 0
AddsDraw v found w = (w ≡ view_of v.share (v.drawn ++ found ∷ [])) × All (λ number. number < found) v.drawn

-- these are the numbers below w, each once
pub record Drawn (w : ℕ) (numbers : List ℕ) : Type 0 where
  pub below : (bound : ℕ) → count_below bound numbers ≡ min bound w
  pub count : length numbers ≡ w
