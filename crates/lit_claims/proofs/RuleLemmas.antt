-- Each step keeps the rule of the word: a draw, a seat that is split, two that are joined. At the end the one seat with all shares
-- has the numbers below the word. A step changes one view, so each sum changes by that view alone (`sum_at`); the hard ones are
-- that the word stays small, and that a seat without a share has no number.
use Rattle.std.proofs.Common.{◌≡◌, ℕ, ◌+◌, ◌-◌, ◌≤◌, ◌<◌, ◌≢◌, ◌%◌, ◌^◌, nat_lt, if◌then◌else◌, zero, suc, List, [], ◌∷◌, ◌++◌, length, get_or, slice_index, set, refl, sym, subst, ap, ◌∙◌, arith, length-append}
use Rattle.std.proofs.lemmas.Bool.Decides.{nat_tests}
use Rattle.std.proofs.lemmas.List.Elements.{All-cons, All-get_or, All-head, All-nil, All-push, All-set, All-tail}
use Rattle.std.proofs.lemmas.List.Sums.{sum_by-cons, sum_by-le-sum_by, sum_by-set, sum_by_push}
use Rattle.std.specs.List.{All, sum_by}
use mathlib.Core.Option.{some, some-injective, some-ne-none}
use lib.ListN.{get_elem?}
use Rattle.atomic_table.proofs.Lists.{set_else}
use Rattle.lit_claims.specs.Counted.{count_below, count_of}
use Rattle.lit_claims.specs.Claimed.{Claimed, Drawn, IsFair, MAX_DRAWN, SHARES, view_of}
use Rattle.lit_claims.specs.declared.view.View.{View}
use Rattle.lit_claims.proofs.Counts.{all_below, below_all, below_append, below_le, below_push, count_between}

-- ---- lists of views

found : {A : Type 0} (l : List A) (i : ℕ) (v : A) → get_elem? l i ≡ some v → (i < length l) × (get_or l i v ≡ v)
found [] i v at = absurd (some-ne-none v (sym at))
found (x ∷ l) zero v at = (omega arith, some-injective x v at)
found (x ∷ l) (suc i) v at = let rest = found l i v at in ((let low = rest.0 in omega arith), rest.1)

sum_at : {A : Type 0} (f : A → ℕ) (l : List A) (i : ℕ) (v w : A) → get_elem? l i ≡ some v
    → sum_by f (set l i w) + f v ≡ sum_by f l + f w
sum_at f l i v w at =
    let is = found l i v at in
    let same = ap f is.1 in
    let change = sum_by-set f l i w v is.0 in omega arith

at_fair : (views : List View) (seat : ℕ) (v : View) → All IsFair views → get_elem? views seat ≡ some v → IsFair v
at_fair views seat v fair at =
    let is = found views seat v at in subst IsFair is.1 (All-get_or IsFair views seat v is.0 fair)

-- so many numbers were drawn as are early, and as there are shares at most
few_late : (views : List View) → All IsFair views
    → sum_by (λ v. length v.drawn) views ≤ sum_by (λ v. count_below MAX_DRAWN v.drawn) views + sum_by (λ v. v.share) views
few_late [] fair = omega arith
few_late (v ∷ views) fair =
    let all = sum_by-cons (λ (u : View). length u.drawn) v views in
    let early = sum_by-cons (λ (u : View). count_below MAX_DRAWN u.drawn) v views in
    let shares = sum_by-cons (λ (u : View). u.share) v views in
    let here = (All-head IsFair v views fair).0 in
    let rest = few_late views (All-tail IsFair v views fair) in omega arith

-- without a share nothing was drawn
none_drawn : (f : View → ℕ) (views : List View) → (f (view_of 0 []) ≡ 0) → All IsFair views → sum_by (λ v. v.share) views ≡ 0
    → sum_by f views ≡ 0
none_drawn f [] empty fair none = refl
none_drawn f (v ∷ views) empty fair none =
    let shares = sum_by-cons (λ (u : View). u.share) v views in
    let sum = sum_by-cons f v views in
    let share : v.share ≡ 0 = omega arith in
    let drawn = (All-head IsFair v views fair).1 share in
    let here = ap f (λ i. view_of (share i) (drawn i)) ∙ empty in
    let rest = none_drawn f views empty (All-tail IsFair v views fair) (omega arith) in omega arith

-- ---- at the start

pub opens : Claimed (0 ∷ []) (view_of SHARES [] ∷ [])
opens = record {
  one = refl;
  below = λ bound. omega arith;
  drawn = refl;
  shares = refl;
  fair = All-cons IsFair (view_of SHARES []) [] (omega arith, (λ none. absurd (omega arith))) (All-nil IsFair);
}

-- ---- a draw

module _ (words : List ℕ) (views : List View) (seat : ℕ) (v : View) (c : Claimed words views) (at : get_elem? views seat ≡ some v) where
  -- all numbers lie below the word
  pub below_word : All (λ n. n < slice_index words 0) v.drawn
  below_word =
      let w : ℕ = slice_index words 0 in
      let left = view_of 0 [] in
      let most = sum_by-le-sum_by (λ (u : View). count_below w u.drawn) (λ u. length u.drawn) (set views seat left)
      (λ u. below_le w u.drawn) in
      let early = sum_at (λ u. count_below w u.drawn) views seat v left at in
      let all = sum_at (λ u. length u.drawn) views seat v left at in
      let here = below_le w v.drawn in
      let below = c.below w in
      let count = c.drawn in all_below w v.drawn (omega arith)

  word_small : slice_index words 0 ≤ MAX_DRAWN + SHARES
  word_small =
      let late = few_late views c.fair in
      let below = c.below MAX_DRAWN in
      let count = c.drawn in
      let shares = c.shares in omega arith

  pub draws : All (λ n. n < MAX_DRAWN) v.drawn → 0 < v.share
      → Claimed (set words 0 ((slice_index words 0 + 1) % 2 ^ 64)) (set views seat (view_of v.share (v.drawn ++ slice_index words 0 ∷ [])))
  draws early some_share =
      let n : ℕ = slice_index words 0 in
      let w = view_of v.share (v.drawn ++ n ∷ []) in
      let small = word_small in
      let next : (n + 1) % 2 ^ 64 ≡ n + 1 = omega arith in
      let word = one_word words ((n + 1) % 2 ^ 64) c.one in
      let more = length-append v.drawn (n ∷ []) in
      record {
        one = word.0;
        below = λ bound.
            let before = c.below bound in
            let change = sum_at (λ u. count_below bound u.drawn) views seat v w at in
            let added = below_push bound v.drawn n in
            let there = word.1 in grind (arith, nat_tests);
        drawn = let change = sum_at (λ u. length u.drawn) views seat v w at in
            let count = c.drawn in
            let there = word.1 in omega arith;
        shares = let change = sum_at (λ u. u.share) views seat v w at in
            let shares = c.shares in omega arith;
        fair = All-set IsFair views seat w (
          (
              let all = below_all MAX_DRAWN MAX_DRAWN v.drawn (omega arith) early in
              let added = below_append MAX_DRAWN v.drawn (n ∷ []) in omega arith),
          (λ none. absurd (omega arith)),
        ) c.fair;
      }
    where
      one_word : (words : List ℕ) (n : ℕ) → length words ≡ 1 → (length (set words 0 n) ≡ 1) × (slice_index (set words 0 n) 0 ≡ n)
      one_word [] n one = absurd (omega arith)
      one_word (w ∷ ws) n one = (one, refl)

  -- ---- a seat is split

  pub splits : 1 < v.share → v.drawn ≡ [] → Claimed words (set views seat (view_of (v.share - 1) v.drawn) ++ view_of 1 [] ∷ [])
  splits some_shares fresh =
      let w = view_of (v.share - 1) v.drawn in
      let left = set views seat w in
      let new = view_of 1 [] in
      record {
        one = c.one;
        below = λ bound. let change = sum_at (λ u. count_below bound u.drawn) views seat v w at in
            let more = sum_by_push (λ (u : View). count_below bound u.drawn) left new in
            let before = c.below bound in omega arith;
        drawn = let change = sum_at (λ u. length u.drawn) views seat v w at in
            let more = sum_by_push (λ (u : View). length u.drawn) left new in
            let before = c.drawn in omega arith;
        shares = let change = sum_at (λ u. u.share) views seat v w at in
            let more = sum_by_push (λ (u : View). u.share) left new in
            let before = c.shares in omega arith;
        fair = All-push IsFair left new (All-set IsFair views seat w (nothing w.share v.drawn fresh) c.fair) (nothing 1 [] refl);
      }
    where
      nothing : (share : ℕ) (drawn : List ℕ) → drawn ≡ [] → IsFair (view_of share drawn)
      nothing share drawn none = subst (λ xs. IsFair (view_of share xs)) (sym none) (omega arith, (λ _. refl))

  -- ---- two seats are joined

  pub joins : (other : ℕ) (w : View) → other ≢ seat
      → get_elem? (set views seat (view_of (v.share + w.share) (v.drawn ++ w.drawn))) other ≡ some w → 0 < v.share
      → Claimed words (set (set views seat (view_of (v.share + w.share) (v.drawn ++ w.drawn))) other (view_of 0 []))
  joins other w apart there some_share =
      let both = view_of (v.share + w.share) (v.drawn ++ w.drawn) in
      let spent = view_of 0 [] in
      let kept = set views seat both in
      let one = at_fair views seat v c.fair at in
      let two = at_fair views other w c.fair (sym (set_else views seat other both apart) ∙ there) in
      let more = length-append v.drawn w.drawn in
      record {
        one = c.one;
        below = λ bound. let first = sum_at (λ u. count_below bound u.drawn) views seat v both at in
            let second = sum_at (λ u. count_below bound u.drawn) kept other w spent there in
            let added = below_append bound v.drawn w.drawn in
            let before = c.below bound in omega arith;
        drawn = let first = sum_at (λ u. length u.drawn) views seat v both at in
            let second = sum_at (λ u. length u.drawn) kept other w spent there in
            let before = c.drawn in omega arith;
        shares = let first = sum_at (λ u. u.share) views seat v both at in
            let second = sum_at (λ u. u.share) kept other w spent there in
            let before = c.shares in omega arith;
        fair = All-set IsFair kept other spent (omega arith, (λ _. refl)) (All-set IsFair views seat both (
          (
              let a = one.0 in
              let b = two.0 in
              let added = below_append MAX_DRAWN v.drawn w.drawn in omega arith),
          (λ none. absurd (omega arith)),
        ) c.fair);
      }

  -- ---- at the end

  closes : v.share ≡ SHARES → Drawn (slice_index words 0) v.drawn
  closes all =
      let left = view_of 0 [] in
      let others = set views seat left in
      let fair = All-set IsFair views seat left (omega arith, (λ _. refl)) c.fair in
      let change = sum_at (λ u. u.share) views seat v left at in
      let shares = c.shares in
      let none : sum_by (λ u. u.share) others ≡ 0 = omega arith in
      record {
        below = λ bound. let early = sum_at (λ u. count_below bound u.drawn) views seat v left at in
            let no_others = none_drawn (λ u. count_below bound u.drawn) others refl fair none in
            let before = c.below bound in omega arith;
        count = let drawn = sum_at (λ u. length u.drawn) views seat v left at in
            let no_others = none_drawn (λ u. length u.drawn) others refl fair none in
            let before = c.drawn in omega arith;
      }

  -- the same, of the word that is read behind the end
  pub closes_at : (ws : List ℕ) (r : ℕ) → v.share ≡ SHARES → words ≡ ws → get_elem? ws 0 ≡ some r → Drawn r v.drawn
  closes_at ws r all same there =
      subst (λ n. Drawn n v.drawn) (ap (λ l. slice_index l 0) same ∙ read_first ws r there) (closes all)
    where
      read_first : (ws : List ℕ) (r : ℕ) → get_elem? ws 0 ≡ some r → slice_index ws 0 ≡ r
      read_first [] r at = absurd (some-ne-none r (sym at))
      read_first (w ∷ ws) r at = some-injective w r at

-- ---- the numbers in the words of how often each stands there

pub each_once : (w : ℕ) (numbers : List ℕ) → Drawn w numbers → (y : ℕ) → count_of y numbers ≡ (if nat_lt y w then 1 else 0)
each_once w numbers drawn y =
    let between = count_between y numbers in
    let below = drawn.below y in
    let next = drawn.below (y + 1) in grind (arith, nat_tests)
