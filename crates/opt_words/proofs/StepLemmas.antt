-- The reading of words goes step by step: where a step ends, fails, takes one too many, or leads on, so does the
-- reading from its word on. A step takes one word or two, and gives one given at most.
-- The hard one is `behind_step`, what the words behind a step say where its value was the next word, and where not.
use Rattle.std.proofs.Common.{◌≡◌, ◌∙◌, ℕ, ◌+◌, ◌-◌, ◌<◌, ◌≤◌, Bool, true, false, List, [], ◌∷◌, length, drop, slice_get, Option, Some, None, refl, ap, sym, arith, nat_lt, ltb-true, ltb-false, length-append, length-drop}
use Rattle.std.proofs.lemmas.List.{drop-drop}
use Rattle.std.specs.Prelude.{Result, Ok, Err}
use Rattle.opt_words.specs.Step.{StepsOn, step, step_at, stepped}
use Rattle.opt_words.specs.Reading.{behind, givens_from, is_twice, joined}
use Rattle.opt_words.specs.declared.fault.WordFault.{WordFault}
use Rattle.opt_words.specs.declared.fault.WordFault.TheVariants.{TwiceGiven}
use Rattle.opt_words.specs.declared.row.Row.{Row}
use Rattle.opt_words.specs.declared.step.Given.{Given}
use Rattle.opt_words.specs.declared.step.Step.{Step}

-- what `stepped` says of a step that was taken, or that failed
was_taken : (r : Result Step WordFault) (s : Step) → stepped r ≡ Ok (Some s) → r ≡ Ok s
was_taken (Ok t) s is = cc
was_taken (Err fault) s is = cc

has_failed : (r : Result Step WordFault) (fault : WordFault) → stepped r ≡ Err fault → r ≡ Err fault
has_failed (Ok t) fault is = cc
has_failed (Err other) fault is = cc

no_step : (r : Result Step WordFault) → stepped r ≡ Ok None → ⊥
no_step (Ok t) is = cc
no_step (Err other) is = cc

pub step_fails : (rows : List Row) (stop only : Bool) (at : ℕ) (before : List Given) (words : List (List ℕ)) (fault : WordFault)
    → step rows stop at only words ≡ Err fault → givens_from rows stop at only false before words ≡ Err fault
unfolding givens_from
step_fails rows stop only at before [] fault failed = cc
step_fails rows stop only at before (word ∷ rest) fault failed =
    rw (has_failed (step_at rows stop at only word (slice_get rest 0)) fault failed) refl

pub step_ends : (rows : List Row) (stop only : Bool) (at : ℕ) (before : List Given) (words : List (List ℕ))
    → step rows stop at only words ≡ Ok None → givens_from rows stop at only false before words ≡ Ok before
unfolding givens_from
step_ends rows stop only at before [] ended = refl
step_ends rows stop only at before (word ∷ rest) ended =
    absurd (no_step (step_at rows stop at only word (slice_get rest 0)) ended)

pub step_takes_twice : (rows : List Row) (stop only : Bool) (at : ℕ) (before : List Given) (words : List (List ℕ)) (s : Step) (fault : WordFault)
    → step rows stop at only words ≡ Ok (Some s) → joined rows at before s.given ≡ Err fault
    → givens_from rows stop at only false before words ≡ Err fault
unfolding givens_from
step_takes_twice rows stop only at before [] s fault took twice = cc
step_takes_twice rows stop only at before (word ∷ rest) s fault took twice =
    rw (was_taken (step_at rows stop at only word (slice_get rest 0)) s took) (rw twice refl)

-- behind a step's word, where the next word is its value or not
behind_step : (rows : List Row) (stop only : Bool) (at next : ℕ) (givens : List Given) (word : List ℕ) (rest : List (List ℕ)) (is_value : Bool)
    → nat_lt (at + 1) next ≡ is_value → at < next → next ≤ at + 2 → next ≤ at + 1 + length rest
    → givens_from rows stop (at + 1) only is_value givens rest
    ≡ givens_from rows stop next only false givens (drop (next - at) (word ∷ rest))
unfolding givens_from
behind_step rows stop only at next givens word [] true is onward short within =
    let past : at + 1 < next = ltb-true (at + 1) next is in absurd (omega arith)
behind_step rows stop only at next givens word (value ∷ rest) true is onward short within =
    let past : at + 1 < next = ltb-true (at + 1) next is in
    let two : next ≡ at + 1 + 1 = omega arith in
    let gone : next - at ≡ 2 = omega arith in
    rw (gone, two) refl
behind_step rows stop only at next givens word rest false is onward short within =
    let low : next ≤ at + 1 = ltb-false (at + 1) next is in
    let one : next ≡ at + 1 = omega arith in
    let gone : next - at ≡ 1 = omega arith in
    rw (gone, one) refl

pub step_leads_on : (rows : List Row) (stop only : Bool) (at : ℕ) (before givens : List Given) (words : List (List ℕ)) (s : Step)
    → step rows stop at only words ≡ Ok (Some s) → joined rows at before s.given ≡ Ok givens
    → at < s.next → s.next ≤ at + 2 → s.next ≤ at + length words
    → givens_from rows stop at only false before words ≡ givens_from rows stop s.next s.only_plain false givens (drop (s.next - at) words)
unfolding givens_from
step_leads_on rows stop only at before givens [] s took all onward short within = cc
step_leads_on rows stop only at before givens (word ∷ rest) s took all onward short within =
    rw (was_taken (step_at rows stop at only word (slice_get rest 0)) s took)
    (rw all (behind_step rows stop s.only_plain at s.next givens word rest (nat_lt (at + 1) s.next) refl onward short (omega arith)))

-- a second value of a row that may be given once is one too many, and others are joined
pub joins_twice : (rows : List Row) (at : ℕ) (before : List Given) (given : Given) → is_twice rows before given ≡ true
    → joined rows at before (Some given) ≡ Err (TwiceGiven at)
joins_twice rows at before given is = rw is refl

pub joins_once : (rows : List Row) (at : ℕ) (before : List Given) (given : Given) → is_twice rows before given ≡ false
    → joined rows at before (Some given) ≡ Ok (behind before (Some given))
joins_once rows at before given is = rw is refl

-- what is given behind a step is one more at most
pub length-behind : (before : List Given) (given : Option Given) → length (behind before given) ≤ length before + 1
length-behind before None = omega arith
length-behind before (Some given) = omega (arith, length-append before (given ∷ []))

-- a step leads on in the words from its word on
pub step_leads : (rows : List Row) (stop only : Bool) (at : ℕ) (before : List Given) (words : List (List ℕ)) (s : Step) (n : ℕ)
    → step rows stop at only (drop at words) ≡ Ok (Some s) → joined rows at before s.given ≡ Ok (behind before s.given)
    → StepsOn n at words s
    → givens_from rows stop at only false before (drop at words)
    ≡ givens_from rows stop s.next s.only_plain false (behind before s.given) (drop s.next words)
step_leads rows stop only at before words s n took all on =
    let onward : at < s.next = on.onward in
    let within : s.next ≤ at + length (drop at words) = omega (arith, length-drop at words, on.within) in
    let there : at + (s.next - at) ≡ s.next = omega arith in
    step_leads_on rows stop only at before (behind before s.given) (drop at words) s took all onward on.short within
    ∙ ap (givens_from rows stop s.next s.only_plain false (behind before s.given)) (drop-drop (s.next - at) at words ∙ ap (λ n. drop n words) there)

-- what is joined is what is given behind
joined_is : (rows : List Row) (at : ℕ) (before after : List Given) (given : Given) (twice : Bool) → is_twice rows before given ≡ twice
    → joined rows at before (Some given) ≡ Ok after → joined rows at before (Some given) ≡ Ok (behind before (Some given))
joined_is rows at before after given true is all = let no = joins_twice rows at before given is in cc
joined_is rows at before after given false is all = joins_once rows at before given is

joined_behind : (rows : List Row) (at : ℕ) (before after : List Given) (given : Option Given) → joined rows at before given ≡ Ok after
    → joined rows at before given ≡ Ok (behind before given)
joined_behind rows at before after None all = refl
joined_behind rows at before after (Some given) all = joined_is rows at before after given (is_twice rows before given) refl all

-- where the words have no fault, a step leads on to all that they give
goes_on : (rows : List Row) (stop only : Bool) (at : ℕ) (before due : List Given) (words : List (List ℕ)) (s : Step) (n : ℕ)
    (all : Result (List Given) WordFault) → joined rows at before s.given ≡ all
    → step rows stop at only (drop at words) ≡ Ok (Some s) → StepsOn n at words s
    → givens_from rows stop at only false before (drop at words) ≡ Ok due
    → givens_from rows stop s.next s.only_plain false (behind before s.given) (drop s.next words) ≡ Ok due
goes_on rows stop only at before due words s n (Ok after) is took on whole =
    sym (step_leads rows stop only at before words s n took (joined_behind rows at before after s.given is) on) ∙ whole
goes_on rows stop only at before due words s n (Err fault) is took on whole =
    let no = step_takes_twice rows stop only at before (drop at words) s fault took is in cc

pub step_goes_on : (rows : List Row) (stop only : Bool) (at : ℕ) (before due : List Given) (words : List (List ℕ)) (s : Step) (n : ℕ)
    → step rows stop at only (drop at words) ≡ Ok (Some s) → StepsOn n at words s
    → givens_from rows stop at only false before (drop at words) ≡ Ok due
    → givens_from rows stop s.next s.only_plain false (behind before s.given) (drop s.next words) ≡ Ok due
step_goes_on rows stop only at before due words s n took on whole =
    goes_on rows stop only at before due words s n (joined rows at before s.given) refl took on whole
