-- A text without the newlines at its end, and its lines that count.
-- Shown: a newline at the end goes, and another byte stays; and by induction over the text that its lines are those that count: a newline
-- puts an empty line in front, another byte goes onto the first one. The hard one is `other_by`, where that line may not count.
use Rattle.std.proofs.Common.{◌≡◌, ℕ, ◌==◌, Bool, true, false, if◌then◌else◌, cond, List, [], ◌∷◌, ◌++◌, length, refl, sym, ap, ◌∙◌, arith}
use Rattle.std.proofs.lemmas.Bool.Decides.{nat_tests}
use Rattle.std.proofs.lemmas.List.Splits.{length-slice_split}
use Rattle.std.specs.List.{onto_first, slice_split}
use Rattle.line_laws.specs.Lines.{counting, line_before, lines_of}
use Rattle.make_checks.specs.Made.{before_trimmed, lines_in, trimmed}
use Rattle.tt_base.specs.Place.{is_newline}

-- ---- from the end on

pub trimmed_newline : (front : List ℕ) → trimmed (front ++ 10 ∷ []) ≡ trimmed front
trimmed_newline [] = refl
trimmed_newline (b ∷ front) = ap (before_trimmed b) (trimmed_newline front)

no_newline : (b : ℕ) → (b ≡ 10 → ⊥) → (b == 10) ≡ false
no_newline b other = grind (arith, nat_tests)

before_some : (x b : ℕ) (front : List ℕ) → before_trimmed x (front ++ b ∷ []) ≡ x ∷ (front ++ b ∷ [])
before_some x b [] = refl
before_some x b (y ∷ front) = refl

pub trimmed_other : (front : List ℕ) (b : ℕ) → (b ≡ 10 → ⊥) → trimmed (front ++ b ∷ []) ≡ front ++ b ∷ []
trimmed_other [] b other = ap (λ n. if n then [] else b ∷ []) (no_newline b other)
trimmed_other (x ∷ front) b other = ap (before_trimmed x) (trimmed_other front b other) ∙ before_some x b front

-- ---- the lines

abbrev parts_of : List ℕ → List (List ℕ)
parts_of text = slice_split is_newline text

some_part : (text : List ℕ) → parts_of text ≡ [] → ⊥
some_part text none =
    let no : length (parts_of text) ≡ 0 = ap length none in
    let off : ⊥ = omega (arith, no, length-slice_split is_newline text) in off

empty_before : (parts : List (List ℕ)) → (parts ≡ [] → ⊥) → line_before [] parts ≡ [] ∷ parts
empty_before [] some = absurd (some refl)
empty_before (line ∷ lines) some = refl

newline_by : (b : ℕ) (rest t : List ℕ) → is_newline b ≡ true → trimmed rest ≡ t → counting (parts_of rest) ≡ lines_in t
    → counting (parts_of (b ∷ rest)) ≡ lines_in (before_trimmed b t)
newline_by b rest [] ends is lines =
    ap (λ n. counting (cond n ([] ∷ parts_of rest) (onto_first b (parts_of rest)))) ends ∙ ap (line_before []) lines
    ∙ sym (ap (λ n. lines_in (if n then [] else b ∷ [])) ends)
newline_by b rest (x ∷ xs) ends is lines =
    ap (λ n. counting (cond n ([] ∷ parts_of rest) (onto_first b (parts_of rest)))) ends ∙ ap (line_before []) lines
    ∙ empty_before (parts_of (x ∷ xs)) (some_part (x ∷ xs))
    ∙ sym (ap (λ n. cond n ([] ∷ parts_of (x ∷ xs)) (onto_first b (parts_of (x ∷ xs)))) ends)

none_before : (line : List ℕ) (lines : List (List ℕ)) → line_before line lines ≡ [] → (line ≡ []) × (lines ≡ [])
none_before [] [] none = (refl, refl)
none_before [] (next ∷ lines) none = cc
none_before (b ∷ line) lines none = cc

whole_before : (line : List ℕ) (lines : List (List ℕ)) → (line_before line lines ≡ [] → ⊥) → line_before line lines ≡ line ∷ lines
whole_before [] [] some = absurd (some refl)
whole_before [] (next ∷ lines) some = refl
whole_before (b ∷ line) lines some = refl

other_by : (b : ℕ) (parts : List (List ℕ)) (t : List ℕ) → is_newline b ≡ false → (parts ≡ [] → ⊥) → counting parts ≡ lines_in t
    → counting (onto_first b parts) ≡ lines_in (before_trimmed b t)
other_by b [] t other some lines = absurd (some refl)
other_by b (line ∷ rest) [] other some lines =
    let none = none_before line (counting rest) lines in
    ap (λ l. (b ∷ l) ∷ counting rest) none.0 ∙ ap (λ ls. (b ∷ []) ∷ ls) none.1
    ∙ sym (ap (λ n. lines_in (if n then [] else b ∷ [])) other ∙ ap (λ n. cond n ([] ∷ [] ∷ []) ((b ∷ []) ∷ [])) other)
other_by b (line ∷ rest) (x ∷ xs) other some lines =
    let whole : line_before line (counting rest) ≡ line ∷ counting rest =
    whole_before line (counting rest) (λ none. some_part (x ∷ xs) (sym lines ∙ none)) in
    let first : parts_of (x ∷ xs) ≡ line ∷ counting rest = sym lines ∙ whole in
    sym (ap (λ n. cond n ([] ∷ parts_of (x ∷ xs)) (onto_first b (parts_of (x ∷ xs)))) other ∙ ap (onto_first b) first)

byte_by : (b : ℕ) (rest : List ℕ) (yes : Bool) → is_newline b ≡ yes → counting (parts_of rest) ≡ lines_in (trimmed rest)
    → counting (parts_of (b ∷ rest)) ≡ lines_in (before_trimmed b (trimmed rest))
byte_by b rest true is lines = newline_by b rest (trimmed rest) is refl lines
byte_by b rest false is lines =
    ap (λ n. counting (cond n ([] ∷ parts_of rest) (onto_first b (parts_of rest)))) is
    ∙ other_by b (parts_of rest) (trimmed rest) is (some_part rest) lines

pub trimmed_lines : (text : List ℕ) → lines_of text ≡ lines_in (trimmed text)
trimmed_lines [] = refl
trimmed_lines (b ∷ rest) = byte_by b rest (is_newline b) refl (trimmed_lines rest)
