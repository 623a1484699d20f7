-- The canonical form of the lines of a text.
-- Shown: it is that of each line with its newline, and in it no blank stands before another. By induction over the bytes, each by what is kept.
-- The hard one is `head_apart`: what stands first in a canonical form is no blank where the text begins with none.
use Rattle.std.proofs.Common.{◌≡◌, ℕ, Bool, true, false, true≢false, not, ◌==◌, ◌&&◌, ◌||◌, if◌then◌else◌, List, [], ◌∷◌, ◌++◌, get_or, refl, sym, ap, ◌∙◌, arith}
use Rattle.std.proofs.lemmas.Bool.Decides.{nat_tests}
use Rattle.check_lines.specs.Canonical.{canon, is_blank, is_kept, shown}
use Rattle.lead_laws.proofs.CanonLemmas.{if_append}
use Rattle.lead_laws.specs.Canon.{CanonIsByLines, CanonIsSettled, IsSettled, form_of, unreturned}

pub is_number : (b n : ℕ) → b == n ≡ true → b ≡ n
is_number b n e = grind (arith, nat_tests, e)

-- ---- what is kept

-- a byte before one that is neither a newline nor a blank
pub apart_kept : (p q : Bool) → not ((p && false) || (q && false)) ≡ true
apart_kept true true = refl
apart_kept true false = refl
apart_kept false true = refl
apart_kept false false = refl

-- one that is no `\r`, before a newline
line_kept : (b : ℕ) → b == 13 ≡ false → is_kept false b 10 ≡ true
line_kept b e = ap (λ y. not ((y && true) || (is_blank b && false))) e ∙ apart_kept false (is_blank b)

one_by : (b : ℕ) (rest : List ℕ) (yes : Bool) → b == 13 ≡ yes → (if is_kept false b 10 then shown false b ∷ 10 ∷ rest else 10 ∷ rest)
    ≡ canon false (if yes then [] else b ∷ []) ++ 10 ∷ rest
unfolding canon
one_by b rest true e = ap (λ y. if not ((y && true) || (is_blank b && false)) then shown false b ∷ 10 ∷ rest else 10 ∷ rest) e
one_by b rest false e =
    ap (λ k. if k then shown false b ∷ 10 ∷ rest else 10 ∷ rest) (line_kept b e)
    ∙ sym (ap (λ k. (if k then shown false b ∷ [] else []) ++ 10 ∷ rest) (apart_kept (b == 13) (is_blank b)))

-- what is kept before a line is kept before it without its `\r`
head_by : (b next : ℕ) (yes : Bool) → next == 13 ≡ yes
    → is_kept false b next ≡ is_kept false b (get_or (if yes then [] else next ∷ []) 0 0)
head_by b next true e = ap (is_kept false b) (is_number next 13 e)
head_by b next false e = refl

head_kept : (b next : ℕ) (rest : List ℕ) → is_kept false b next ≡ is_kept false b (get_or (unreturned (next ∷ rest)) 0 0)
head_kept b next [] = head_by b next (next == 13) refl
head_kept b next (r ∷ rest) = refl

pub canon_is_by_lines : CanonIsByLines
unfolding canon
canon_is_by_lines [] behind = refl
canon_is_by_lines (b ∷ []) behind = one_by b (canon false behind) (b == 13) refl
canon_is_by_lines (b ∷ next ∷ rest) behind =
    ap (λ l. if is_kept false b next then shown false b ∷ l else l) (canon_is_by_lines (next ∷ rest) behind)
    ∙ if_append (is_kept false b next) (shown false b) (form_of (next ∷ rest)) (10 ∷ canon false behind)
    ∙ ap (λ k. (if k then shown false b ∷ form_of (next ∷ rest) else form_of (next ∷ rest)) ++ 10 ∷ canon false behind) (head_kept b next rest)

-- ---- blanks

pub shown_by : (b : ℕ) (blank : Bool) → is_blank b ≡ blank → shown false b ≡ (if blank then 32 else b)
shown_by b blank e = ap (λ k. if k then 32 else b) e

twice_by : (b : ℕ) (blank : Bool) → is_blank b ≡ blank → shown false (shown false b) ≡ shown false b
twice_by b true e = ap (shown false) (shown_by b true e) ∙ sym (shown_by b true e)
twice_by b false e = ap (shown false) (shown_by b false e)

not_or : (p q : Bool) → not (p || q) ≡ true → q ≡ false
not_or true q h = absurd (true≢false (sym h))
not_or false true h = absurd (true≢false (sym h))
not_or false false h = refl

not_and : (p q : Bool) → not ((p && q) || false) ≡ false → q ≡ true
not_and true true h = refl
not_and true false h = absurd (true≢false h)
not_and false q h = absurd (true≢false h)

-- behind a blank that is kept stands none
no_blank : (b next : ℕ) → is_blank b ≡ true → is_kept false b next ≡ true → is_blank next ≡ false
no_blank b next e kept =
    not_or (b == 13 && next == 10) (is_blank next) (sym (ap (λ k. not ((b == 13 && next == 10) || (k && is_blank next))) e) ∙ kept)

-- another byte that isn't kept stands before a newline
before_newline : (b next : ℕ) → is_blank b ≡ false → is_kept false b next ≡ false → next ≡ 10
before_newline b next e dropped =
    is_number next 10 (not_and (b == 13) (next == 10)
    (sym (ap (λ k. not ((b == 13 && next == 10) || (k && is_blank next))) e) ∙ dropped))

head_of : (b : ℕ) (rest : List ℕ) (kept : Bool) → is_kept false b (get_or rest 0 0) ≡ kept → is_blank b ≡ false
    → is_blank (get_or (if kept then shown false b ∷ canon false rest else canon false rest) 0 0) ≡ false
unfolding canon
head_of b rest true e off = ap is_blank (shown_by b false off) ∙ off
head_of b [] false e off = absurd (true≢false (sym (apart_kept (b == 13) (is_blank b)) ∙ e))
head_of b (next ∷ rest) false e off = ap (λ n. is_blank (get_or (canon false (n ∷ rest)) 0 0)) (before_newline b next off e)

head_apart : (rest : List ℕ) → is_blank (get_or rest 0 0) ≡ false → is_blank (get_or (canon false rest) 0 0) ≡ false
unfolding canon
head_apart [] off = refl
head_apart (b ∷ rest) off = head_of b rest (is_kept false b (get_or rest 0 0)) refl off

apart_by : (b : ℕ) (rest : List ℕ) (blank : Bool) → is_blank b ≡ blank → is_kept false b (get_or rest 0 0) ≡ true
    → is_blank (shown false b) && is_blank (get_or (canon false rest) 0 0) ≡ false
apart_by b rest true e kept =
    ap (λ x. is_blank x && is_blank (get_or (canon false rest) 0 0)) (shown_by b true e)
    ∙ head_apart rest (no_blank b (get_or rest 0 0) e kept)
apart_by b rest false e kept =
    ap (λ x. is_blank x && is_blank (get_or (canon false rest) 0 0)) (shown_by b false e)
    ∙ ap (λ k. k && is_blank (get_or (canon false rest) 0 0)) e

settled_by : (b : ℕ) (rest : List ℕ) (kept : Bool) → is_kept false b (get_or rest 0 0) ≡ kept → IsSettled (canon false rest)
    → IsSettled (if kept then shown false b ∷ canon false rest else canon false rest)
settled_by b rest true e settled = (twice_by b (is_blank b) refl, apart_by b rest (is_blank b) refl e, settled)
settled_by b rest false e settled = settled

pub canon_is_settled : CanonIsSettled
unfolding canon
canon_is_settled [] = tt
canon_is_settled (b ∷ rest) = settled_by b rest (is_kept false b (get_or rest 0 0)) refl (canon_is_settled rest)

-- ---- the end of a text

pub unreturned_return : (front : List ℕ) → unreturned (front ++ 13 ∷ []) ≡ front
unreturned_return [] = refl
unreturned_return (b ∷ []) = refl
unreturned_return (b ∷ next ∷ front) = ap (λ l. b ∷ l) (unreturned_return (next ∷ front))

pub unreturned_other : (front : List ℕ) (last : ℕ) → last == 13 ≡ false → unreturned (front ++ last ∷ []) ≡ front ++ last ∷ []
unreturned_other [] last e = ap (λ k. if k then [] else last ∷ []) e
unreturned_other (b ∷ []) last e = ap (λ k. b ∷ (if k then [] else last ∷ [])) e
unreturned_other (b ∷ next ∷ front) last e = ap (λ l. b ∷ l) (unreturned_other (next ∷ front) last e)

newline_first : (behind : List ℕ) → unreturned (10 ∷ behind) ≡ 10 ∷ unreturned behind
newline_first [] = refl
newline_first (b ∷ behind) = refl

unreturned_behind : (line behind : List ℕ) → unreturned (line ++ 10 ∷ behind) ≡ line ++ 10 ∷ unreturned behind
unreturned_behind [] behind = newline_first behind
unreturned_behind (b ∷ []) behind = ap (λ l. b ∷ l) (newline_first behind)
unreturned_behind (b ∷ next ∷ line) behind = ap (λ l. b ∷ l) (unreturned_behind (next ∷ line) behind)

-- the form of a text is that of its lines
pub form_by_lines : (line behind : List ℕ) → form_of (line ++ 10 ∷ behind) ≡ form_of line ++ 10 ∷ form_of behind
form_by_lines line behind = ap (canon false) (unreturned_behind line behind) ∙ canon_is_by_lines line (unreturned behind)
