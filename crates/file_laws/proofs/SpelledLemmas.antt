-- The directives of a made check file are their own canonical form.
-- Shown: the lines of a canonical text hold no blank before another and no newline, nor do they once they are quoted, and what stands before
-- and behind them is no blank. By induction over bytes. The hard one is `canon_quoted`, where a byte is kept before what stands for the next.
use Rattle.std.proofs.Common.{◌≡◌, codes, ℕ, ◌==◌, Bool, true, false, not, ◌&&◌, ◌||◌, if◌then◌else◌, cond, List, [], ◌∷◌, ◌++◌, map, get_or, refl, sym, ap, ◌∙◌, append_assoc}
use Rattle.std.specs.List.{onto_first, slice_split}
use Rattle.check_lines.specs.Canonical.{canon, is_blank, is_kept, shown}
use Rattle.file_laws.proofs.PlainLemmas.{ArePlain, IsPlain, plain_both, plain_byte, plain_parts}
use Rattle.file_laws.specs.Asks.{Ask, asks_of, body_in, empty, end, first, mark_of, next, next_ask, start}
use Rattle.lead_laws.proofs.CanonLemmas.{canon_is_by_parts}
use Rattle.lead_laws.proofs.FormLemmas.{apart_kept, is_number, unreturned_other}
use Rattle.lead_laws.specs.Canon.{BeginsApart, IsSettled, form_of}
use Rattle.line_laws.specs.Lines.{counting, line_before, lines_of}
use Rattle.quote_laws.specs.Quote.{quote, quote_byte}
use Rattle.tt_base.specs.Place.{is_newline}

-- ---- the lines of a canonical text

abbrev pub AreSettled : List (List ℕ) → Type 0
AreSettled [] = Unit {0}
AreSettled (line ∷ lines) = IsSettled line × AreSettled lines

-- the first line of a text begins with a blank where the text does
abbrev AreOfText : List ℕ → List (List ℕ) → Type 0
AreOfText text [] = ⊥
AreOfText text (line ∷ lines) = (is_blank (get_or line 0 0) ≡ is_blank (get_or text 0 0)) × AreSettled (line ∷ lines)

split_by : (b : ℕ) (text : List ℕ) (yes : Bool) → is_newline b ≡ yes → IsSettled (b ∷ text) → (lines : List (List ℕ))
    → AreOfText text lines → AreOfText (b ∷ text) (cond yes ([] ∷ lines) (onto_first b lines))
split_by b text ends e settled [] are = absurd are
split_by b text true e settled (line ∷ lines) are = (sym (ap is_blank (is_number b 10 e)), (tt, are.1))
split_by b text false e settled (line ∷ lines) are =
    (refl, ((settled.0, ap (λ k. is_blank b && k) are.0 ∙ settled.1, are.1.0), are.1.1))

split_settled : (text : List ℕ) → IsSettled text → AreOfText text (slice_split is_newline text)
split_settled [] settled = (refl, (tt, tt))
split_settled (b ∷ text) settled =
    split_by b text (is_newline b) refl settled (slice_split is_newline text) (split_settled text settled.2)

of_text : (text : List ℕ) (lines : List (List ℕ)) → AreOfText text lines → AreSettled lines
of_text text [] are = tt
of_text text (line ∷ lines) are = are.1

before_settled : (line : List ℕ) (lines : List (List ℕ)) → IsSettled line → AreSettled lines → AreSettled (line_before line lines)
before_settled [] [] one others = tt
before_settled [] (line ∷ lines) one others = (one, others)
before_settled (b ∷ line) lines one others = (one, others)

counting_settled : (lines : List (List ℕ)) → AreSettled lines → AreSettled (counting lines)
counting_settled [] are = tt
counting_settled (line ∷ lines) are = before_settled line (counting lines) are.0 (counting_settled lines are.1)

pub lines_settled : (text : List ℕ) → IsSettled text → AreSettled (lines_of text)
lines_settled text settled = counting_settled _ (of_text text (slice_split is_newline text) (split_settled text settled))

-- ---- quoted lines

plain_quoted_byte : (b : ℕ) (x y : Bool) → is_newline b ≡ false
    → IsPlain (if x then codes "{{\\[}}" else if y then codes "{{[{]}}" else b ∷ [])
plain_quoted_byte b true y off = refl
plain_quoted_byte b false true off = refl
plain_quoted_byte b false false off = plain_byte b [] off refl

plain_quote : (line : List ℕ) → IsPlain line → IsPlain (quote line)
plain_quote [] plain = refl
plain_quote (b ∷ line) plain =
    let parts = plain_parts b line plain in
    plain_both (quote_byte b) (quote line) (plain_quoted_byte b (b == 91) (b == 123) parts.0) (plain_quote line parts.1)

-- a quoted line before the end of its body
abbrev before_end : List ℕ → List ℕ
before_end line = quote line ++ codes "{{$}}"

kept_before : (b c : ℕ) → is_blank b && is_blank c ≡ false → is_newline c ≡ false → is_kept false b c ≡ true
kept_before b c apart off =
    ap (λ q. not ((b == 13 && q) || (is_blank b && is_blank c))) off ∙ ap (λ q. not ((b == 13 && false) || q)) apart
    ∙ apart_kept (b == 13) false

head_by : (b c : ℕ) (line : List ℕ) (x y : Bool) → is_blank b && is_blank c ≡ false → is_newline c ≡ false
    → is_kept false b (get_or (((if x then codes "{{\\[}}" else if y then codes "{{[{]}}" else c ∷ []) ++ quote line) ++ codes "{{$}}") 0 0) ≡ true
head_by b c line true y apart off = apart_kept (b == 13) (is_blank b)
head_by b c line false true apart off = apart_kept (b == 13) (is_blank b)
head_by b c line false false apart off = kept_before b c apart off

head_quoted : (b : ℕ) (line : List ℕ) → is_blank b && is_blank (get_or line 0 0) ≡ false → IsPlain line
    → is_kept false b (get_or (before_end line) 0 0) ≡ true
head_quoted b [] apart plain = apart_kept (b == 13) (is_blank b)
head_quoted b (c ∷ line) apart plain = head_by b c line (c == 91) (c == 123) apart (plain_parts c line plain).0

quoted_by : (b : ℕ) (line : List ℕ) (x y : Bool) → shown false b ≡ b → is_kept false b (get_or (before_end line) 0 0) ≡ true
    → canon false (before_end line) ≡ before_end line
    → canon false (((if x then codes "{{\\[}}" else if y then codes "{{[{]}}" else b ∷ []) ++ quote line) ++ codes "{{$}}")
    ≡ ((if x then codes "{{\\[}}" else if y then codes "{{[{]}}" else b ∷ []) ++ quote line) ++ codes "{{$}}"
unfolding canon
quoted_by b line true y is kept rest = ap (λ l. codes "{{\\[}}" ++ l) rest
quoted_by b line false true is kept rest = ap (λ l. codes "{{[{]}}" ++ l) rest
quoted_by b line false false is kept rest =
    ap (λ k. if k then shown false b ∷ canon false (before_end line) else canon false (before_end line)) kept
    ∙ ap (λ x. x ∷ canon false (before_end line)) is ∙ ap (λ l. b ∷ l) rest

canon_quoted : (line : List ℕ) → IsPlain line → IsSettled line → canon false (before_end line) ≡ before_end line
unfolding canon
canon_quoted [] plain settled = refl
canon_quoted (b ∷ line) plain settled =
    let parts = plain_parts b line plain in
    quoted_by b line (b == 91) (b == 123) settled.0 (head_quoted b line settled.1 parts.1) (canon_quoted line parts.1 settled.2)

-- ---- directives

-- what asks for lines of a canonical text
abbrev pub IsSound : Ask → Type 0
IsSound start = Unit {0}
IsSound (first line) = IsPlain line × IsSettled line
IsSound (next line) = IsPlain line × IsSettled line
IsSound empty = Unit {0}
IsSound end = Unit {0}

abbrev pub AreSound : List Ask → Type 0
AreSound [] = Unit {0}
AreSound (ask ∷ asks) = IsSound ask × AreSound asks

nexts_sound : (lines : List (List ℕ)) → ArePlain lines → AreSettled lines → AreSound (map next_ask lines ++ end ∷ [])
nexts_sound [] plain settled = (tt, tt)
nexts_sound ([] ∷ lines) plain settled = (tt, nexts_sound lines plain.1 settled.1)
nexts_sound ((b ∷ line) ∷ lines) plain settled = ((plain.0, settled.0), nexts_sound lines plain.1 settled.1)

pub asks_sound : (lines : List (List ℕ)) → ArePlain lines → AreSettled lines → AreSound (asks_of lines)
asks_sound [] plain settled = (tt, tt)
asks_sound (line ∷ lines) plain settled = (tt, ((plain.0, settled.0), nexts_sound lines plain.1 settled.1))

-- a directive as it is written
abbrev pub spelled : Ask → List ℕ
spelled ask = mark_of ask ++ body_in ask

pub spelled_plain : (ask : Ask) → IsSound ask → IsPlain (spelled ask)
spelled_plain start sound = refl
spelled_plain (first line) sound =
    plain_both (codes "CHECK: {{^}}") (before_end line) refl (plain_both (quote line) (codes "{{$}}") (plain_quote line sound.0) refl)
spelled_plain (next line) sound =
    plain_both (codes "CHECK-NEXT: {{^}}") (before_end line) refl (plain_both (quote line) (codes "{{$}}") (plain_quote line sound.0) refl)
spelled_plain empty sound = refl
spelled_plain end sound = refl

canon_spelled : (ask : Ask) → IsSound ask → canon false (spelled ask) ≡ spelled ask
unfolding canon
canon_spelled start sound = refl
canon_spelled (first line) sound = ap (λ l. codes "CHECK: {{^}}" ++ l) (canon_quoted line sound.0 sound.1)
canon_spelled (next line) sound = ap (λ l. codes "CHECK-NEXT: {{^}}" ++ l) (canon_quoted line sound.0 sound.1)
canon_spelled empty sound = refl
canon_spelled end sound = refl

spelled_apart : (ask : Ask) → BeginsApart (spelled ask)
spelled_apart start = (refl, refl)
spelled_apart (first line) = (refl, refl)
spelled_apart (next line) = (refl, refl)
spelled_apart empty = (refl, refl)
spelled_apart end = (refl, refl)

-- it ends in another byte than `\r`
abbrev IsClosed : List ℕ → Type 0
IsClosed text = (front : List ℕ) × (last : ℕ) × (text ≡ front ++ last ∷ []) × (last == 13 ≡ false)

spelled_closed : (ask : Ask) → IsClosed (spelled ask)
spelled_closed start = (codes "CHECK-NOT: {{.|[[:space:]]}", 125, refl, refl)
spelled_closed (first line) = (
  (codes "CHECK: {{^}}" ++ quote line) ++ codes "{{$}",
  125,
  sym (append_assoc (codes "CHECK: {{^}}" ++ quote line) (codes "{{$}") (125 ∷ [])),
  refl,
)
spelled_closed (next line) = (
  (codes "CHECK-NEXT: {{^}}" ++ quote line) ++ codes "{{$}",
  125,
  sym (append_assoc (codes "CHECK-NEXT: {{^}}" ++ quote line) (codes "{{$}") (125 ∷ [])),
  refl,
)
spelled_closed empty = (codes "CHECK-EMPTY", 58, refl, refl)
spelled_closed end = (codes "CHECK-NOT: {{.}", 125, refl, refl)

-- behind a lead it is what it is, and the lead its canonical form
pub spelled_form : (lead : List ℕ) (ask : Ask) → IsSound ask → form_of (lead ++ spelled ask) ≡ canon false lead ++ spelled ask
spelled_form lead ask sound =
    let closed = spelled_closed ask in
    let whole : lead ++ spelled ask ≡ (lead ++ closed.0) ++ closed.1 ∷ [] =
    ap (λ l. lead ++ l) closed.2 ∙ sym (append_assoc lead closed.0 (closed.1 ∷ [])) in
    ap form_of whole ∙ ap (canon false) (unreturned_other (lead ++ closed.0) closed.1 closed.3 ∙ sym whole)
    ∙ canon_is_by_parts false lead (spelled ask) (spelled_apart ask) ∙ ap (λ l. canon false lead ++ l) (canon_spelled ask sound)
