-- Texts without a newline, and the lines of a text.
-- Shown: a canonical form has a newline only where its text has one, lines one behind the other are what a text is cut into, and the other way
-- round. By induction over bytes or lines. The hard one is `split_is`, where a byte goes onto the first line.
use Rattle.std.proofs.Common.{◌≡◌, ℕ, Bool, true, false, if◌then◌else◌, cond, ◌==◌, List, [], ◌∷◌, ◌++◌, get_or, refl, ap, ◌∙◌, append_assoc}
use Rattle.std.proofs.lemmas.Bool.{or_from, or_parts}
use Rattle.std.proofs.lemmas.List.Folds.{list_any-append}
use Rattle.std.proofs.lemmas.List.Splits.{slice_split-cons_no}
use Rattle.std.specs.List.{flat_map, list_any, onto_first, slice_split}
use Rattle.check_lines.specs.Canonical.{canon, is_blank, is_kept, shown}
use Rattle.file_laws.specs.Kept.{with_newline}
use Rattle.lead_laws.proofs.FormLemmas.{is_number, shown_by}
use Rattle.lead_laws.specs.Canon.{form_of, unreturned}
use Rattle.line_laws.proofs.LinesLemmas.{AreGood, HasNone}
use Rattle.tt_base.specs.Place.{is_newline}

-- no byte of a text is a newline
abbrev pub IsPlain : List ℕ → Type 0
IsPlain text = list_any is_newline text ≡ false

abbrev pub ArePlain : List (List ℕ) → Type 0
ArePlain [] = Unit {0}
ArePlain (line ∷ lines) = IsPlain line × ArePlain lines

pub plain_byte : (b : ℕ) (text : List ℕ) → is_newline b ≡ false → IsPlain text → IsPlain (b ∷ text)
plain_byte b text off plain = or_from (is_newline b) (list_any is_newline text) off plain

pub plain_parts : (b : ℕ) (text : List ℕ) → IsPlain (b ∷ text) → (is_newline b ≡ false) × IsPlain text
plain_parts b text plain = or_parts (is_newline b) (list_any is_newline text) plain

pub plain_both : (front behind : List ℕ) → IsPlain front → IsPlain behind → IsPlain (front ++ behind)
plain_both front behind one two =
    list_any-append is_newline front behind ∙ or_from (list_any is_newline front) (list_any is_newline behind) one two

pub plain_more : (lines others : List (List ℕ)) → ArePlain lines → ArePlain others → ArePlain (lines ++ others)
plain_more [] others one two = two
plain_more (line ∷ lines) others one two = (one.0, plain_more lines others one.1 two)

none_plain : (line : List ℕ) → HasNone line → IsPlain line
none_plain [] none = refl
none_plain (b ∷ line) none = plain_byte b line none.0 (none_plain line none.1)

pub good_plain : (lines : List (List ℕ)) → AreGood lines → ArePlain lines
good_plain [] good = tt
good_plain (line ∷ lines) good = (none_plain line good.0, good_plain lines good.2)

-- ---- canonical forms

shown_plain : (b : ℕ) (blank : Bool) → is_blank b ≡ blank → is_newline b ≡ false → is_newline (shown false b) ≡ false
shown_plain b true e off = ap is_newline (shown_by b true e)
shown_plain b false e off = ap is_newline (shown_by b false e) ∙ off

canon_by : (b : ℕ) (text : List ℕ) (kept : Bool) → is_newline b ≡ false → IsPlain (canon false text)
    → IsPlain (if kept then shown false b ∷ canon false text else canon false text)
canon_by b text true off plain = plain_byte (shown false b) (canon false text) (shown_plain b (is_blank b) refl off) plain
canon_by b text false off plain = plain

pub plain_canon : (text : List ℕ) → IsPlain text → IsPlain (canon false text)
unfolding canon
plain_canon [] plain = refl
plain_canon (b ∷ text) plain =
    let parts = plain_parts b text plain in canon_by b text (is_kept false b (get_or text 0 0)) parts.0 (plain_canon text parts.1)

plain_last : (b : ℕ) (yes : Bool) → IsPlain (b ∷ []) → IsPlain (if yes then [] else b ∷ [])
plain_last b true plain = refl
plain_last b false plain = plain

plain_unreturned : (text : List ℕ) → IsPlain text → IsPlain (unreturned text)
plain_unreturned [] plain = refl
plain_unreturned (b ∷ []) plain = plain_last b (b == 13) plain
plain_unreturned (b ∷ next ∷ text) plain =
    let parts = plain_parts b (next ∷ text) plain in
    plain_byte b (unreturned (next ∷ text)) parts.0 (plain_unreturned (next ∷ text) parts.1)

pub plain_form : (line : List ℕ) → IsPlain line → IsPlain (form_of line)
plain_form line plain = plain_canon (unreturned line) (plain_unreturned line plain)

-- ---- what a text is cut into

pub split_alone : (line : List ℕ) → IsPlain line → slice_split is_newline line ≡ line ∷ []
split_alone [] plain = refl
split_alone (b ∷ line) plain =
    let parts = plain_parts b line plain in
    slice_split-cons_no is_newline b line parts.0 ∙ ap (onto_first b) (split_alone line parts.1)

pub split_before : (line rest : List ℕ) → IsPlain line → slice_split is_newline (line ++ 10 ∷ rest) ≡ line ∷ slice_split is_newline rest
split_before [] rest plain = refl
split_before (b ∷ line) rest plain =
    let parts = plain_parts b line plain in
    slice_split-cons_no is_newline b (line ++ 10 ∷ rest) parts.0 ∙ ap (onto_first b) (split_before line rest parts.1)

pub split_lines : (lines : List (List ℕ)) → ArePlain lines → slice_split is_newline (flat_map with_newline lines) ≡ lines ++ [] ∷ []
split_lines [] plain = refl
split_lines (line ∷ lines) plain =
    let rest = flat_map with_newline lines in
    ap (slice_split is_newline) (append_assoc line (10 ∷ []) rest) ∙ split_before line rest plain.0
    ∙ ap (λ l. line ∷ l) (split_lines lines plain.1)

-- a text is these lines, between newlines
abbrev pub IsCutAt : List ℕ → List (List ℕ) → Type 0
IsCutAt text [] = ⊥
IsCutAt text (line ∷ []) = IsPlain line × (text ≡ line)
IsCutAt text (line ∷ next ∷ lines) = IsPlain line × (behind : List ℕ) × (text ≡ line ++ 10 ∷ behind) × IsCutAt behind (next ∷ lines)

cut_by : (b : ℕ) (text : List ℕ) (yes : Bool) → is_newline b ≡ yes → (lines : List (List ℕ)) → IsCutAt text lines
    → IsCutAt (b ∷ text) (cond yes ([] ∷ lines) (onto_first b lines))
cut_by b text ends e [] cut = absurd cut
cut_by b text true e (line ∷ lines) cut = (refl, text, ap (λ x. x ∷ text) (is_number b 10 e), cut)
cut_by b text false e (line ∷ []) cut = (plain_byte b line e cut.0, ap (λ l. b ∷ l) cut.1)
cut_by b text false e (line ∷ next ∷ lines) cut = (plain_byte b line e cut.0, cut.1, ap (λ l. b ∷ l) cut.2, cut.3)

pub split_is : (text : List ℕ) → IsCutAt text (slice_split is_newline text)
split_is [] = (refl, refl)
split_is (b ∷ text) = cut_by b text (is_newline b) refl (slice_split is_newline text) (split_is text)
