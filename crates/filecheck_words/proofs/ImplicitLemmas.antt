-- Each pattern of --implicit-check-not is a line with more than blanks.
-- Shown: canonical text keeps what is no blank, and gets no newline; without the blanks at its ends there is something
-- left. Byte by byte. The hard one is `some_kept`.
use Rattle.std.proofs.Common.{◌≡◌, ◌≢◌, ◌∙◌, ℕ, zero, suc, ◌+◌, ◌<◌, ◌≤◌, ◌-◌, arith, Bool, true, false, cond, not, ◌&&◌, ◌||◌, ◌==◌, List, [], ◌∷◌, All, drop, get_or, length, map, reverse, take, Option, Some, None, Ok, refl, sym, ap, subst}
use Rattle.std.proofs.lemmas.List.{reverse-append, length-reverse}
use Rattle.std.proofs.lemmas.List.Elements.{All-cons, All-nil}
use Rattle.std.proofs.lemmas.List.Folds.{list_all-append}
use Rattle.std.specs.List.{find, list_all, list_any, prefix_len, suffix_len}
use Rattle.check_lines.specs.Canonical.{canon, is_blank, is_kept, shown}
use Rattle.check_lines.specs.Class.{has}
use Rattle.check_lines.specs.declared.class.Class.TheVariants.{Blank}
use Rattle.filecheck_words.specs.Implicit.{IsLine, PatternsAreLines, is_bad, is_newline, pattern_of, patterns_beside}

-- ---- tests

neither : (a b : Bool) → (a || b) ≡ false → (a ≡ false) × (b ≡ false)
neither true b is = cc
neither false b is = (refl, is)

never_both : (a : Bool) → (a && false) ≡ false
never_both true = refl
never_both false = refl

module _ (p : ℕ → Bool) where
  none_taken : (xs : List ℕ) (n : ℕ) → list_any p xs ≡ false → list_any p (take n xs) ≡ false
  none_taken xs zero none = refl
  none_taken [] (suc n) none = refl
  none_taken (x ∷ xs) (suc n) none =
      let two = neither (p x) (list_any p xs) none in rw two.0 (none_taken xs n two.1)

  none_left : (xs : List ℕ) (n : ℕ) → list_any p xs ≡ false → list_any p (drop n xs) ≡ false
  none_left xs zero none = none
  none_left [] (suc n) none = refl
  none_left (x ∷ xs) (suc n) none = none_left xs n (neither (p x) (list_any p xs) none).1

  -- a front that passes is short of a list that doesn't
  short : (xs : List ℕ) → list_all p xs ≡ false → prefix_len p xs < length xs
  short [] not_all = cc
  short (x ∷ xs) not_all = by_first (p x) refl (short xs)
    where
      by_first : (passes : Bool) → p x ≡ passes → (list_all p xs ≡ false → prefix_len p xs < length xs)
          → prefix_len p (x ∷ xs) < length (x ∷ xs)
      by_first true is later =
          let rest : list_all p xs ≡ false = sym (ap (λ b. b && list_all p xs) is) ∙ not_all in
          let fewer : prefix_len p xs < length xs = later rest in rw is (omega (arith, fewer))
      by_first false is later = rw is (omega arith)

  -- what is behind it doesn't pass
  behind_front : (xs : List ℕ) → list_all p xs ≡ false → list_all p (drop (prefix_len p xs) xs) ≡ false
  behind_front [] not_all = not_all
  behind_front (x ∷ xs) not_all = by_first (p x) refl (behind_front xs)
    where
      by_first : (passes : Bool) → p x ≡ passes
          → (list_all p xs ≡ false → list_all p (drop (prefix_len p xs) xs) ≡ false)
          → list_all p (drop (prefix_len p (x ∷ xs)) (x ∷ xs)) ≡ false
      by_first true is later =
          let rest : list_all p xs ≡ false = sym (ap (λ b. b && list_all p xs) is) ∙ not_all in
          let one : 1 + prefix_len p xs ≡ suc (prefix_len p xs) = omega arith in
          rw is (ap (λ k. list_all p (drop k (x ∷ xs))) one ∙ later rest)
      by_first false is later = rw is (rw is refl)

  turned : (xs : List ℕ) → list_all p (reverse xs) ≡ list_all p xs
  turned [] = refl
  turned (x ∷ xs) =
      ap (list_all p) (reverse-append (x ∷ []) xs) ∙ list_all-append p (reverse xs) (x ∷ [])
      ∙ ap (λ b. b && list_all p (x ∷ [])) (turned xs) ∙ swapped (list_all p xs) (p x)
    where
      swapped : (a b : Bool) → (a && (b && true)) ≡ (b && a)
      swapped true true = refl
      swapped true false = refl
      swapped false true = refl
      swapped false false = refl

  short_end : (xs : List ℕ) → list_all p xs ≡ false → suffix_len p xs < length xs
  short_end xs not_all =
      let fewer : prefix_len p (reverse xs) < length (reverse xs) = short (reverse xs) (turned xs ∙ not_all) in
      omega (arith, fewer, length-reverse xs)

some_taken : (xs : List ℕ) (n : ℕ) → 0 < n → n ≤ length xs → take n xs ≢ []
some_taken xs zero some within is = absurd (omega (arith, some))
some_taken [] (suc n) some within is = absurd (omega (arith, within))
some_taken (x ∷ xs) (suc n) some within is = cc

-- ---- canonical text

one_kept : (strict : Bool) (byte : ℕ) → is_newline byte ≡ false → is_newline (shown strict byte) ≡ false
one_kept strict byte is = by_shown (not strict && is_blank byte)
  where
    by_shown : (blank : Bool) → is_newline (cond blank 32 byte) ≡ false
    by_shown true = refl
    by_shown false = is

no_newline : (strict : Bool) (text : List ℕ) → list_any is_newline text ≡ false → list_any is_newline (canon strict text) ≡ false
unfolding canon
no_newline strict [] none = refl
no_newline strict (byte ∷ rest) none =
    let two = neither (is_newline byte) (list_any is_newline rest) none in
    by_kept (is_kept strict byte (get_or rest 0 0)) two.0 (no_newline strict rest two.1)
  where
    by_kept : (kept : Bool) → is_newline byte ≡ false → list_any is_newline (canon strict rest) ≡ false
        → list_any is_newline (cond kept (shown strict byte ∷ canon strict rest) (canon strict rest)) ≡ false
    by_kept true other later = rw (one_kept strict byte other) later
    by_kept false other later = later

-- a byte that is no blank is kept before one that is no newline
is_there : (strict : Bool) (byte next : ℕ) → is_blank byte ≡ false → is_newline next ≡ false
    → (is_kept strict byte next ≡ true) × (shown strict byte ≡ byte)
is_there strict byte next no_blank no_end =
    (rw no_blank (rw no_end (kept (byte == 13) strict (is_blank next))), rw no_blank (same strict))
  where
    kept : (a b c : Bool) → not ((a && false) || ((not b && false) && c)) ≡ true
    kept a b c = rw (never_both a) (rw (never_both (not b)) refl)

    same : (b : Bool) → cond (not b && false) 32 byte ≡ byte
    same b = rw (never_both (not b)) refl

no_end_first : (rest : List ℕ) → list_any is_newline rest ≡ false → is_newline (get_or rest 0 0) ≡ false
no_end_first [] none = refl
no_end_first (byte ∷ rest) none = (neither (is_newline byte) (list_any is_newline rest) none).0

some_kept : (strict : Bool) (text : List ℕ) → list_all is_blank text ≡ false → list_any is_newline text ≡ false
    → list_all is_blank (canon strict text) ≡ false
unfolding canon
some_kept strict [] some none = cc
some_kept strict (byte ∷ rest) some none =
    by_blank (is_blank byte) refl (neither (is_newline byte) (list_any is_newline rest) none).1 (some_kept strict rest)
  where
    with_rest : (kept : Bool) → list_all is_blank (canon strict rest) ≡ false
        → list_all is_blank (cond kept (shown strict byte ∷ canon strict rest) (canon strict rest)) ≡ false
    with_rest true later = rw later (never_both (is_blank (shown strict byte)))
    with_rest false later = later

    by_blank : (blank : Bool) → is_blank byte ≡ blank → list_any is_newline rest ≡ false
        → (list_all is_blank rest ≡ false → list_any is_newline rest ≡ false → list_all is_blank (canon strict rest) ≡ false)
        → list_all is_blank (cond (is_kept strict byte (get_or rest 0 0)) (shown strict byte ∷ canon strict rest) (canon strict rest))
        ≡ false
    by_blank true is no_end go =
        let more : list_all is_blank rest ≡ false = sym (ap (λ b. b && list_all is_blank rest) is) ∙ some in
        with_rest (is_kept strict byte (get_or rest 0 0)) (go more no_end)
    by_blank false is no_end go =
        let there = is_there strict byte (get_or rest 0 0) is (no_end_first rest no_end) in
        ap (λ k. list_all is_blank (cond k (shown strict byte ∷ canon strict rest) (canon strict rest))) there.0
        ∙ ap (λ b. is_blank b && list_all is_blank (canon strict rest)) there.1
        ∙ ap (λ b. b && list_all is_blank (canon strict rest)) is

-- ---- patterns

line_of : (strict : Bool) (value : List ℕ) → is_bad value ≡ false → IsLine (pattern_of strict value)
line_of strict value good =
    let two = neither (list_all is_blank value) (list_any is_newline value) good in
    let text = canon strict value in
    let rest = drop (prefix_len (has Blank) text) text in
    let more : list_all is_blank rest ≡ false =
    behind_front is_blank text (some_kept strict value two.0 two.1) in
    let fewer : suffix_len is_blank rest < length rest = short_end is_blank rest more in
    record {
      some = some_taken rest (length rest - suffix_len (has Blank) rest) (omega (arith, fewer)) (omega arith);
      one = none_taken is_newline rest _ (none_left is_newline text _ (no_newline strict value two.1));
    }

none_bad : (bad : Bool) (value : List ℕ) (later : Option (List ℕ)) → cond bad (Some value) later ≡ None
    → (bad ≡ false) × (later ≡ None)
none_bad true value later is = cc
none_bad false value later is = (refl, is)

all_lines : (strict : Bool) (values : List (List ℕ)) → find is_bad values ≡ None → All IsLine (map (pattern_of strict) values)
all_lines strict [] none = All-nil IsLine
all_lines strict (value ∷ values) none =
    let two = none_bad (is_bad value) value (find is_bad values) none in
    All-cons IsLine (pattern_of strict value) (map (pattern_of strict) values) (line_of strict value two.0)
    (all_lines strict values two.1)

pub patterns_are_lines : PatternsAreLines
patterns_are_lines strict values patterns is = by_bad (find is_bad values) refl is
  where
    by_bad : (bad : Option (List ℕ)) → find is_bad values ≡ bad → patterns_beside strict values bad ≡ Ok patterns
        → All IsLine patterns
    by_bad None none is =
        let same : map (pattern_of strict) values ≡ patterns = cc in subst (All IsLine) same (all_lines strict values none)
    by_bad (Some value) some is = cc
