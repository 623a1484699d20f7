-- The answer that an output comes to.
-- Shown: the lines that are gone through are those of the canonical text, and what is told of too long lines and of too many bytes.
-- The hard one is `refreshed_is`.
use Rattle.std.proofs.Common.{◌≡◌, ℕ, ◌-◌, ◌<◌, ◌≤◌, nat_lt, Bool, true, false, if◌then◌else◌, List, [], ◌∷◌, ◌++◌, length, length-append, Option, None, Some, Result, Ok, Err, refl, sym, ap, ◌∙◌, arith}
use Rattle.std.proofs.lemmas.Bool.Decides.{nat_tests}
use Rattle.std.specs.List.{list_any, position_from, slice_split}
use Rattle.tt_base.specs.Place.{is_newline}
use Rattle.check_lines.specs.Canonical.{canon}
use Rattle.line_laws.specs.Lines.{lines_of}
use Rattle.make_checks.proofs.TrimLemmas.{trimmed_lines}
use Rattle.make_checks.specs.Adding.{IsAnswer, IsRefused}
use Rattle.file_laws.specs.Kept.{kept}
use Rattle.file_laws.specs.Lead.{is_barred}
use Rattle.file_laws.specs.Made.{canonical_lines, is_too_long, long_line, made_text}
use Rattle.make_checks.specs.Directives.{LeavesRoom}
use Rattle.make_checks.specs.Made.{lines_in, refreshed, trimmed, unless_large, unless_long}
use Rattle.make_checks.specs.declared.fault.MakeFail.{MakeFail}
use Rattle.make_checks.specs.declared.fault.MakeFail.TheVariants.{Bad, NoMemory}
use Rattle.make_checks.specs.declared.fault.MakeFault.{MakeFault}
use Rattle.make_checks.specs.declared.fault.MakeFault.TheVariants.{BadLead, TooLarge}

-- ---- the answer

long_in : (text : List ℕ) → position_from is_too_long 1 (slice_split is_newline text) ≡ long_line (lines_in text)
long_in [] = refl
long_in (b ∷ text) = refl

pub refreshed_is : (old output lead canonical lines : List ℕ) (bad : Bool) (long : Option ℕ) → bad ≡ list_any is_barred lead
    → bad ≡ false → canonical ≡ canon false output → lines ≡ trimmed canonical
    → long ≡ position_from is_too_long 1 (slice_split is_newline lines)
    → refreshed old output lead ≡ unless_long long (kept old ++ made_text lead (lines_in lines))
refreshed_is old output lead canonical lines bad long bad_is good is trimmed_is long_is =
    let same : canonical_lines output ≡ lines_in lines =
    ap lines_of (sym is) ∙ trimmed_lines canonical ∙ ap lines_in (sym trimmed_is) in
    let told = λ (ls : List (List ℕ)). unless_long (long_line ls) (kept old ++ made_text lead ls) in
    ap (λ b. if b then Err BadLead else told (canonical_lines output)) (sym bad_is ∙ good) ∙ ap told same
    ∙ ap (λ n. unless_long n (kept old ++ made_text lead (lines_in lines))) (sym (long_is ∙ long_in lines))

is_large : (n : ℕ) → 16777216 < n → nat_lt 16777216 n ≡ true
is_large n large = grind (arith, nat_tests)

is_small : (n : ℕ) → n ≤ 16777216 → nat_lt 16777216 n ≡ false
is_small n small = grind (arith, nat_tests)

pub answer_refused : (answer : Result (List ℕ) MakeFault) (text : List ℕ) (fail : MakeFail) → answer ≡ unless_large text
    → IsRefused text fail → IsAnswer answer (Err fail)
answer_refused answer text (Bad fault) is h =
    is ∙ ap (λ b. if b then Err TooLarge else Ok text) (is_large (length text) h.1) ∙ ap Err (sym h.0)
answer_refused answer text NoMemory is h = tt

pub answer_made : (answer : Result (List ℕ) MakeFault) (text made : List ℕ) → answer ≡ unless_large text → made ≡ text
    → length made ≤ 16777216 → answer ≡ Ok made
answer_made answer text made is made_is small =
    is ∙ ap (λ b. if b then Err TooLarge else Ok text) (is_small (length text) (omega (arith, small, ap length made_is))) ∙ ap Ok (sym made_is)

-- what is kept, with a text behind it for which there is no room, is too large
pub answer_large : (answer : Result (List ℕ) MakeFault) (front made : List ℕ) → answer ≡ unless_large (front ++ made)
    → length front ≤ 16777216 → LeavesRoom made (16777216 - length front) None → IsAnswer answer (Err (Bad TooLarge))
answer_large answer front made is within none =
    answer_refused answer (front ++ made) (Bad TooLarge) is (refl, omega (arith, within, none, length-append front made))

-- and one for which there is
pub answer_whole : (answer : Result (List ℕ) MakeFault) (front made : List ℕ) (rest : ℕ) → answer ≡ unless_large (front ++ made)
    → length front ≤ 16777216 → LeavesRoom made (16777216 - length front) (Some rest) → answer ≡ Ok (front ++ made)
answer_whole answer front made rest is within some =
    answer_made answer (front ++ made) (front ++ made) is refl (omega (arith, within, some.0, length-append front made))
