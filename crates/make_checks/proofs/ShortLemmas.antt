-- Lines between newlines that stand close enough are short.
-- Shown: where a newline stands within so many bytes, the lines up to it are short (`newline_within`), and so are those of a text of so many
-- bytes (`all_within`). By induction over the text: each byte goes onto the first line, or ends it. The hard one is `byte_within`.
use Rattle.std.proofs.Common.{◌≡◌, ℕ, zero, suc, ◌+◌, ◌<◌, ◌≤◌, Bool, true, false, cond, List, [], ◌∷◌, length, get_or, take, drop, Option, None, Some, IfSome, refl, sym, ap, ◌∙◌, subst, arith}
use Rattle.std.proofs.lemmas.List.{get_or-take, length-take}
use Rattle.std.proofs.lemmas.List.Splits.{slice_split-cons_yes, slice_split-cons_no}
use Rattle.std.specs.List.{onto_first, position_from, slice_split}
use Rattle.file_laws.specs.Made.{is_too_long}
use Rattle.memchr.specs.Find.{IsLastByte}
use Rattle.make_checks.proofs.QuoteLemmas.{short_line}
use Rattle.make_checks.specs.Made.{NoneIsLong}
use Rattle.tt_base.specs.Place.{is_newline}

-- the first line has at most so many bytes, and no further one is too long
abbrev AreWithin : ℕ → List (List ℕ) → Type 0
AreWithin room [] = Unit {0}
AreWithin room (line ∷ lines) = (length line ≤ room) × NoneIsLong lines

none_long : (lines : List (List ℕ)) (room : ℕ) → room ≤ 9360 → AreWithin room lines → NoneIsLong lines
none_long [] room low within number = refl
none_long (line ∷ lines) room low within number =
    ap (λ b. cond b (Some number) (position_from is_too_long (number + 1) lines)) (short_line line (omega (arith, low, within.0)))
    ∙ within.1 (number + 1)

onto : (b : ℕ) (lines : List (List ℕ)) (room : ℕ) → AreWithin room lines → AreWithin (suc room) (onto_first b lines)
onto b [] room within = (omega arith, λ number. refl)
onto b (line ∷ lines) room within = (omega (arith, within.0), within.1)

-- a byte before lines ends one, or goes onto the first
byte_within : (b : ℕ) (rest : List ℕ) (room : ℕ) → room ≤ 9360 → AreWithin room (slice_split is_newline rest)
    → AreWithin (suc room) (slice_split is_newline (b ∷ rest))
byte_within b rest room low within = by (is_newline b) refl
  where
    by : (yes : Bool) → is_newline b ≡ yes → AreWithin (suc room) (slice_split is_newline (b ∷ rest))
    by true is =
        subst (AreWithin (suc room)) (sym (slice_split-cons_yes is_newline b rest is))
        (omega arith, none_long (slice_split is_newline rest) room low within)
    by false is =
        subst (AreWithin (suc room)) (sym (slice_split-cons_no is_newline b rest is)) (onto b (slice_split is_newline rest) room within)

all_within : (room : ℕ) (text : List ℕ) → room ≤ 9360 → length text ≤ room → AreWithin room (slice_split is_newline text)
all_within room [] low short = (omega arith, λ number. refl)
all_within zero (b ∷ text) low short = absurd (omega (arith, short))
all_within (suc room) (b ∷ text) low short =
    byte_within b text room (omega (arith, low)) (all_within room text (omega (arith, low)) (omega (arith, short)))

newline_within : (room : ℕ) (text : List ℕ) (at : ℕ) → room ≤ 9360 → at ≤ room → at < length text → is_newline (get_or text at 0) ≡ true
    → NoneIsLong (slice_split is_newline (drop (suc at) text)) → AreWithin room (slice_split is_newline text)
newline_within room [] at low within inside here later = absurd (omega (arith, inside))
newline_within room (b ∷ text) zero low within inside here later =
    subst (AreWithin room) (sym (slice_split-cons_yes is_newline b text here)) (omega arith, later)
newline_within zero (b ∷ text) (suc at) low within inside here later = absurd (omega (arith, within))
newline_within (suc room) (b ∷ text) (suc at) low within inside here later =
    byte_within b text room (omega (arith, low))
    (newline_within room text at (omega (arith, low)) (omega (arith, within)) (omega (arith, inside)) here later)

-- ---- the last newline among so many bytes and one more

pub near_within : (n : ℕ) (text : List ℕ) (found : Option ℕ) → IsLastByte is_newline (take (n + 1) text) found
    → IfSome found (λ at. at < length text)
near_within n text None none = tt
near_within n text (Some at) last = omega (arith, last.0.high, length-take (n + 1) text)

pub near_front : (n : ℕ) (text : List ℕ) (found : Option ℕ) → IsLastByte is_newline (take (n + 1) text) found → IfSome found (λ at. at ≤ n)
near_front n text None none = tt
near_front n text (Some at) last = omega (arith, last.0.high, length-take (n + 1) text)

pub near_newline : (n : ℕ) (text : List ℕ) (found : Option ℕ) → IsLastByte is_newline (take (n + 1) text) found
    → IfSome found (λ at. is_newline (get_or text at 0) ≡ true)
near_newline n text None none = tt
near_newline n text (Some at) last =
    let inside : at < n + 1 = omega (arith, last.0.high, length-take (n + 1) text) in
    ap is_newline (sym (get_or-take (n + 1) text at 0 inside)) ∙ last.1

-- ---- texts

-- the lines of a short text
pub short_text : (text : List ℕ) → length text ≤ 9360 → NoneIsLong (slice_split is_newline text)
short_text text short =
    none_long (slice_split is_newline text) 9360 (omega arith) (all_within 9360 text (omega arith) short)

-- and those up to a newline that stands close enough
pub short_front : (text : List ℕ) (at : ℕ) → at ≤ 9360 → at < length text → is_newline (get_or text at 0) ≡ true
    → NoneIsLong (slice_split is_newline (drop (suc at) text)) → NoneIsLong (slice_split is_newline text)
short_front text at low inside here later =
    none_long (slice_split is_newline text) 9360 (omega arith) (newline_within 9360 text at (omega arith) low inside here later)
