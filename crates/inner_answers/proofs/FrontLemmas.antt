-- Shown: the command that words of `not` ask for is known from the words up to one that doesn't begin with a dash. Idea: each step of
-- `not` takes one word, and behind a plain word all are plain, of which the first counts. The hard one is front_tells, by the words in
-- front of the plain one.
use Rattle.std.proofs.Common.{◌≡◌, ℕ, zero, suc, ◌+◌, ◌<◌, ◌==◌, Bool, true, false, not, ◌&&◌, if◌then◌else◌, List, [], ◌∷◌, ◌++◌, append_assoc, append-nil, length, take, drop, get_or, slice_get, Option, Some, None, codes, Result, Ok, Err, refl, sym, ap, ◌∙◌, nat_lt, arith}
use Rattle.std.proofs.lemmas.Bool.{le-ltb}
use Rattle.std.proofs.lemmas.Grind.{common_steps}
use Rattle.std.proofs.lemmas.List.{drop_more, take-append-drop, take_more}
use Rattle.std.specs.Str.{bytes_eq}
use Rattle.tt_base.specs.Occurrence.{begins_with}
use Rattle.opt_words.specs.Reading.{and_then, first, givens_from, joined, times}
use Rattle.opt_words.specs.Step.{formed, option_step, step_at, takes}
use Rattle.opt_words.specs.Word.{is_option, meant, own_value}
use Rattle.opt_words.specs.declared.fault.WordFault.{WordFault}
use Rattle.opt_words.specs.declared.row.Form.TheVariants.{Flag}
use Rattle.opt_words.specs.declared.row.Row.{Row}
use Rattle.opt_words.specs.declared.step.Given.{Given}
use Rattle.opt_words.specs.declared.step.Step.{Step}
use Rattle.not_count.specs.Command.{command_from, command_in, command_of, rows}

-- ---- what counts of what is given

-- behind the first plain word
first_stays : (before : List Given) (plain : Given) (more : List Given) → plain.row ≡ 1
    → first 1 (before ++ plain ∷ more) ≡ first 1 (before ++ plain ∷ [])
first_stays [] plain more is =
    ap (λ row. if row == 1 then Some plain else first 1 more) is ∙ sym (ap (λ row. if row == 1 then Some plain else first 1 []) is)
first_stays (one ∷ before) plain more is =
    ap (λ found. if one.row == 1 then Some one else found) (first_stays before plain more is)

-- the plain words from an index on
abbrev plain_at : ℕ → Given
plain_at at = record { row = 1; word = at; at = 0 }

abbrev plains : ℕ → List (List ℕ) → List Given
plains at [] = []
plains at (word ∷ words) = plain_at at ∷ plains (at + 1) words

crashes_stay : (before : List Given) (at : ℕ) (words : List (List ℕ)) → times 0 (before ++ plains at words) ≡ times 0 before
crashes_stay [] at [] = refl
crashes_stay [] at (word ∷ words) = grind (arith, common_steps, crashes_stay [] (at + 1) words)
crashes_stay (one ∷ before) at words = grind (arith, common_steps, crashes_stay before at words)

-- ---- steps

no_value : (at : ℕ) → nat_lt (at + 1) (at + 1) ≡ false
no_value at = le-ltb (at + 1) (at + 1) (omega arith)

-- where only plain words are left
all_plain : (at : ℕ) (before : List Given) (words : List (List ℕ))
    → givens_from rows true at true false before words ≡ Ok (before ++ plains at words)
unfolding givens_from
all_plain at before [] = ap Ok (sym (append-nil before))
all_plain at before (word ∷ words) =
    ap (λ is_value. givens_from rows true (at + 1) true is_value (before ++ plain_at at ∷ []) words) (no_value at)
    ∙ all_plain (at + 1) (before ++ plain_at at ∷ []) words
    ∙ ap Ok (append_assoc before (plain_at at ∷ []) (plains (at + 1) words))

-- a step takes one word
abbrev crash : Row
crash = record { name = codes "crash"; form = Flag }

abbrev TakesOne : ℕ → Result Step WordFault → Type 0
TakesOne at (Ok step) = step.next ≡ at + 1
TakesOne at (Err fault) = Unit {0}

flag_takes : (row at : ℕ) (word : List ℕ) (own : Option ℕ) (next : Option (List ℕ)) → TakesOne at (formed Flag row at word own next)
flag_takes row at word None next = refl
flag_takes row at word (Some own) next = tt

option_takes : (row : Option ℕ) (at : ℕ) (word : List ℕ) (next : Option (List ℕ)) → TakesOne at (option_step rows row at word next)
option_takes None at word next = tt
option_takes (Some zero) at word next = flag_takes 0 at word (own_value crash word) next
option_takes (Some (suc row)) at word next = tt

step_takes : (at : ℕ) (only : Bool) (word : List ℕ) (next : Option (List ℕ)) → TakesOne at (step_at rows true at only word next)
step_takes at true word next = refl
step_takes at false word next = each (is_option word) (bytes_eq word (codes "--"))
  where
    each : (option end : Bool) → TakesOne at (if not option then Ok (takes 1 at 0 (at + 1) true)
        else if end then Ok (record { given = None; next = at + 1; only_plain = true }) else option_step rows (meant rows word) at word next)
    each false end = refl
    each true true = refl
    each true false = option_takes (meant rows word) at word next

-- a word that isn't an option is plain, whatever stood before it
plain_step : (at : ℕ) (only : Bool) (word : List ℕ) (next : Option (List ℕ)) → is_option word ≡ false
    → step_at rows true at only word next ≡ Ok (takes 1 at 0 (at + 1) true)
plain_step at true word next is = refl
plain_step at false word next is = ap (λ option. if not option then Ok (takes 1 at 0 (at + 1) true)
    else if bytes_eq word (codes "--") then Ok (record { given = None; next = at + 1; only_plain = true })
    else option_step rows (meant rows word) at word next) is

-- ---- the reading

-- how it goes on behind a step
abbrev behind_step : ℕ → List Given → List (List ℕ) → Result Step WordFault → Result (List Given) WordFault
behind_step at before rest step = and_then step (λ step. and_then (joined rows at before step.given)
    (λ givens. givens_from rows true (at + 1) step.only_plain (nat_lt (at + 1) step.next) givens rest))

from_step : (at : ℕ) (only : Bool) (before : List Given) (word : List ℕ) (rest : List (List ℕ))
    → givens_from rows true at only false before (word ∷ rest)
    ≡ behind_step at before rest (step_at rows true at only word (slice_get rest 0))
unfolding givens_from
from_step at only before word rest = refl

-- at the plain word what follows doesn't count
plain_tells : (at : ℕ) (only : Bool) (before : List Given) (word : List ℕ) (rest : List (List ℕ)) → is_option word ≡ false
    → command_of (givens_from rows true at only false before (word ∷ rest))
    ≡ command_from (times 0 before) (first 1 (before ++ plain_at at ∷ []))
plain_tells at only before word rest is =
    let given : givens_from rows true at only false before (word ∷ rest) ≡ Ok (before ++ plain_at at ∷ plains (at + 1) rest) =
    from_step at only before word rest
    ∙ ap (behind_step at before rest) (plain_step at only word (slice_get rest 0) is)
    ∙ ap (λ is_value. givens_from rows true (at + 1) true is_value (before ++ plain_at at ∷ []) rest) (no_value at)
    ∙ all_plain (at + 1) (before ++ plain_at at ∷ []) rest
    ∙ ap Ok (append_assoc before (plain_at at ∷ []) (plains (at + 1) rest)) in
    ap command_of given
    ∙ ap (λ count. command_from count (first 1 (before ++ plain_at at ∷ plains (at + 1) rest))) (crashes_stay before at (word ∷ rest))
    ∙ ap (command_from (times 0 before)) (first_stays before (plain_at at) (plains (at + 1) rest) refl)

next_same : (front : List (List ℕ)) (word : List ℕ) (rest more : List (List ℕ))
    → slice_get (front ++ word ∷ rest) 0 ≡ slice_get (front ++ word ∷ more) 0
next_same [] word rest more = refl
next_same (one ∷ front) word rest more = refl

-- behind equal steps, where the words in front of the plain one are fewer
behind_same : (at : ℕ) (before : List Given) (one other : List (List ℕ))
    → ((only : Bool) (givens : List Given) → command_of (givens_from rows true (at + 1) only false givens one)
    ≡ command_of (givens_from rows true (at + 1) only false givens other))
    → (step : Result Step WordFault) → TakesOne at step
    → command_of (behind_step at before one step) ≡ command_of (behind_step at before other step)
behind_same at before one other same (Err fault) takes = refl
behind_same at before one other same (Ok step) takes = each (joined rows at before step.given)
  where
    none : nat_lt (at + 1) step.next ≡ false
    none = ap (nat_lt (at + 1)) takes ∙ no_value at

    each : (all : Result (List Given) WordFault)
        → command_of (and_then all (λ givens. givens_from rows true (at + 1) step.only_plain (nat_lt (at + 1) step.next) givens one))
        ≡ command_of (and_then all (λ givens. givens_from rows true (at + 1) step.only_plain (nat_lt (at + 1) step.next) givens other))
    each (Err fault) = refl
    each (Ok givens) =
        ap (λ b. command_of (givens_from rows true (at + 1) step.only_plain b givens one)) none
        ∙ same step.only_plain givens
        ∙ sym (ap (λ b. command_of (givens_from rows true (at + 1) step.only_plain b givens other)) none)

front_tells : (at : ℕ) (only : Bool) (before : List Given) (front : List (List ℕ)) (word : List ℕ) (rest more : List (List ℕ))
    → is_option word ≡ false
    → command_of (givens_from rows true at only false before (front ++ word ∷ rest))
    ≡ command_of (givens_from rows true at only false before (front ++ word ∷ more))
front_tells at only before [] word rest more is =
    plain_tells at only before word rest is ∙ sym (plain_tells at only before word more is)
front_tells at only before (one ∷ front) word rest more is =
    let next = slice_get (front ++ word ∷ rest) 0 in
    ap command_of (from_step at only before one (front ++ word ∷ rest))
    ∙ behind_same at before (front ++ word ∷ rest) (front ++ word ∷ more)
    (λ only givens. front_tells (at + 1) only givens front word rest more is) (step_at rows true at only one next)
    (step_takes at only one next)
    ∙ ap (λ next. command_of (behind_step at before (front ++ word ∷ more) (step_at rows true at only one next)))
    (next_same front word rest more)
    ∙ sym (ap command_of (from_step at only before one (front ++ word ∷ more)))

-- a word that doesn't begin with a dash is no option
no_dash : (word : List ℕ) → begins_with word (codes "-") ≡ false → is_option word ≡ false
no_dash word is = ap (λ b. b && not (bytes_eq word (codes "-"))) is

-- words up to one that doesn't begin with a dash
pub front_commands : (words : List (List ℕ)) (at : ℕ) → at < length words → begins_with (get_or words at []) (codes "-") ≡ false
    → command_in (take (at + 1) words) ≡ command_in words
front_commands words at within is =
    let word = get_or words at [] in
    let whole : take at words ++ word ∷ drop (at + 1) words ≡ words =
    ap (λ rest. take at words ++ rest) (sym (drop_more words at [] within)) ∙ take-append-drop at words in
    ap command_in (take_more words at [] within)
    ∙ front_tells 0 false [] (take at words) word [] (drop (at + 1) words) (no_dash word is)
    ∙ ap command_in whole
