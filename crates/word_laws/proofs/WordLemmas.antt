-- Shown: words without a fault are steps, each of one word or two, and give what these give.
-- Idea: each way to step takes the word at hand, or that and the next one; then the rest is shorter.
-- The hard one is `steps_from`, by the words that are left.
use Rattle.std.proofs.Common.{◌≡◌, ◌∙◌, ℕ, zero, suc, ◌+◌, ◌-◌, ◌<◌, ◌≤◌, Bool, true, false, not, if◌then◌else◌, List, [], ◌∷◌, ◌++◌, append_assoc, append-nil, length, length-drop, drop, slice_get, Option, Some, None, codes, Result, Ok, Err, refl, sym, ap, subst, arith}
use Rattle.std.specs.Prelude.{IfSome}
use Rattle.std.specs.List.{cons_option}
use Rattle.std.specs.Str.{bytes_eq}
use Rattle.opt_words.proofs.StepLemmas.{step_ends, step_fails, step_leads_on, step_takes_twice}
use Rattle.opt_words.specs.Number.{is_number}
use Rattle.opt_words.specs.Reading.{behind, givens_from, is_twice, joined}
use Rattle.opt_words.specs.Step.{formed, is_truth, numbered, option_of, option_step, step, step_at, stepped, takes, value_text, valued, wants}
use Rattle.opt_words.specs.Word.{is_option, meant, own_value}
use Rattle.opt_words.specs.declared.fault.WordFault.{WordFault}
use Rattle.opt_words.specs.declared.fault.WordFault.TheVariants.{BadNumber, TwiceGiven, UnwantedValue}
use Rattle.opt_words.specs.declared.row.Form.{Form}
use Rattle.opt_words.specs.declared.row.Form.TheVariants.{Flag, Switch, Once, Many, Glued, Number}
use Rattle.opt_words.specs.declared.row.Row.{Row}
use Rattle.opt_words.specs.declared.step.Given.{Given}
use Rattle.opt_words.specs.declared.step.Step.{Step}
use Rattle.word_laws.specs.Words.{AreSteps, Takes, WordsAreSteps, givens_in}

-- ---- answers

one_ok : {A E : Type 0} (x y : A) → ◌≡◌ {A = Result A E} (Ok x) (Ok y) → x ≡ y
one_ok x y is = cc

no_ok : {A E P : Type 0} (e : E) (x : A) → ◌≡◌ {A = Result A E} (Err e) (Ok x) → P
no_ok e x is = cc

wanted : (test : Bool) (fault : WordFault) (r : Result Step WordFault) (s : Step) → wants test fault r ≡ Ok s → r ≡ Ok s
wanted true fault r s is = is
wanted false fault r s is = no_ok fault s is

a_number : (least most : ℕ) (r : Result Step WordFault) (value : List ℕ) (at : ℕ) (s : Step)
    → numbered least most r value at ≡ Ok s → r ≡ Ok s
a_number least most (Ok one) value at s is = wanted (is_number least most value) (BadNumber at) (Ok one) s is
a_number least most (Err fault) value at s is = no_ok fault s is

-- ---- what a step takes

module _ (at count : ℕ) where
  takes_one : (row from : ℕ) (only : Bool) (s : Step) → ◌≡◌ {A = Result Step WordFault} (Ok (takes row at from (at + 1) only)) (Ok s)
      → Takes at (suc count) s
  takes_one row from only s is =
      subst (Takes at (suc count)) (one_ok _ s is)
      (record { onward = omega arith; short = omega arith; within = omega arith; own = (omega arith, omega arith) })

  takes_two : (row : ℕ) (s : Step) → 0 < count
      → ◌≡◌ {A = Result Step WordFault} (Ok (takes row (at + 1) 0 (at + 2) false)) (Ok s) → Takes at (suc count) s
  takes_two row s some is =
      subst (Takes at (suc count)) (one_ok _ s is)
      (record { onward = omega arith; short = omega arith; within = omega (arith, some); own = (omega arith, omega arith) })

  takes_valued : (row : ℕ) (own : Option ℕ) (next : Option (List ℕ)) (s : Step) → IfSome next (λ value. 0 < count)
      → valued row at own next ≡ Ok s → Takes at (suc count) s
  takes_valued row (Some own) next s some is = takes_one row own false s is
  takes_valued row None (Some value) s some is = takes_two row s some is
  takes_valued row None None s some is = no_ok _ s is

  takes_formed : (form : Form) (row : ℕ) (word : List ℕ) (own : Option ℕ) (next : Option (List ℕ)) (s : Step)
      → IfSome next (λ value. 0 < count) → formed form row at word own next ≡ Ok s → Takes at (suc count) s
  takes_formed Flag row word None next s some is = takes_one row (length word) false s is
  takes_formed Flag row word (Some own) next s some is = no_ok _ s is
  takes_formed Switch row word None next s some is = takes_one row (length word) false s is
  takes_formed Switch row word (Some own) next s some is =
      takes_one row own false s (wanted (is_truth (drop own word)) (UnwantedValue at) _ s is)
  takes_formed Once row word own next s some is = takes_valued row own next s some is
  takes_formed Many row word own next s some is = takes_valued row own next s some is
  takes_formed Glued row word own next s some is = takes_valued row own next s some is
  takes_formed (Number least most) row word own next s some is =
      takes_valued row own next s some (a_number least most (valued row at own next) (value_text word own next) at s is)

  takes_row : (one : Option Row) (row : ℕ) (word : List ℕ) (next : Option (List ℕ)) (s : Step)
      → IfSome next (λ value. 0 < count) → option_of one row at word next ≡ Ok s → Takes at (suc count) s
  takes_row (Some one) row word next s some is = takes_formed one.form row word (own_value one word) next s some is
  takes_row None row word next s some is = no_ok _ s is

  takes_option : (rows : List Row) (row : Option ℕ) (word : List ℕ) (next : Option (List ℕ)) (s : Step)
      → IfSome next (λ value. 0 < count) → option_step rows row at word next ≡ Ok s → Takes at (suc count) s
  takes_option rows (Some row) word next s some is = takes_row (slice_get rows row) row word next s some is
  takes_option rows None word next s some is = no_ok _ s is

  takes_at : (rows : List Row) (stop only : Bool) (word : List ℕ) (next : Option (List ℕ)) (s : Step)
      → IfSome next (λ value. 0 < count) → step_at rows stop at only word next ≡ Ok s → Takes at (suc count) s
  takes_at rows stop only word next s some is = each only (not (is_option word)) (bytes_eq word (codes "--")) is
    where
      each : (a b c : Bool)
          → (if a then Ok (takes (length rows) at 0 (at + 1) true)
          else if b then Ok (takes (length rows) at 0 (at + 1) stop)
          else if c then Ok (record { given = None; next = at + 1; only_plain = true })
          else option_step rows (meant rows word) at word next) ≡ Ok s
          → Takes at (suc count) s
      each true b c is = takes_one (length rows) 0 true s is
      each false true c is = takes_one (length rows) 0 stop s is
      each false false true is =
          subst (Takes at (suc count)) (one_ok _ s is)
          (record { onward = omega arith; short = omega arith; within = omega arith; own = tt })
      each false false false is = takes_option rows (meant rows word) word next s some is

-- a next word is one of those behind
some_behind : (rest : List (List ℕ)) → IfSome (slice_get rest 0) (λ value. 0 < length rest)
some_behind [] = tt
some_behind (value ∷ rest) = omega arith

-- ---- what is joined

joined_is : (rows : List Row) (at : ℕ) (before after : List Given) (given : Option Given)
    → joined rows at before given ≡ Ok after → after ≡ behind before given
joined_is rows at before after None is = sym (one_ok before after is)
joined_is rows at before after (Some given) is = each (is_twice rows before given) is
  where
    each : (test : Bool) → (if test then Err (TwiceGiven at) else Ok (behind before (Some given))) ≡ Ok after
        → after ≡ behind before (Some given)
    each true is = no_ok _ after is
    each false is = sym (one_ok _ after is)

behind_all : (before : List Given) (given : Option Given) (all : List Given)
    → behind before given ++ all ≡ before ++ cons_option given all
behind_all before None all = refl
behind_all before (Some given) all = append_assoc before (given ∷ []) all

-- ---- all words

module _ (rows : List Row) (stop : Bool) where
  -- what words without a fault come to, behind what was given before
  abbrev Cut : ℕ → Bool → List Given → List (List ℕ) → List Given → Type 0
  Cut at only before words all =
      (steps : List Step) × AreSteps rows stop at only words steps × (all ≡ before ++ givens_in steps)

  -- a step, and the cut of what is behind it
  cut_behind : (at : ℕ) (only : Bool) (before after : List Given) (word : List ℕ) (rest : List (List ℕ)) (all : List Given)
      (s : Step) → step rows stop at only (word ∷ rest) ≡ Ok (Some s) → Takes at (suc (length rest)) s
      → joined rows at before s.given ≡ Ok after
      → Cut s.next s.only_plain after (drop (s.next - at) (word ∷ rest)) all → Cut at only before (word ∷ rest) all
  cut_behind at only before after word rest all s took leads joins (steps, are, same) = (
    s ∷ steps,
    (took, leads, are),
    same ∙ ap (λ front. front ++ givens_in steps) (joined_is rows at before after s.given joins)
        ∙ behind_all before s.given (givens_in steps),
  )

  steps_from : (n at : ℕ) (only : Bool) (before : List Given) (words : List (List ℕ)) (all : List Given) → length words ≤ n
      → givens_from rows stop at only false before words ≡ Ok all → Cut at only before words all
  steps_from n at only before [] all short is =
      let same : before ≡ all = one_ok before all (sym (step_ends rows stop only at before [] refl) ∙ is) in
      ([], refl, sym same ∙ sym (append-nil before))
  steps_from zero at only before (word ∷ rest) all short is = absurd (omega (arith, short))
  steps_from (suc n) at only before (word ∷ rest) all short is =
      by_step (λ s after. steps_from n s.next s.only_plain after (drop (s.next - at) (word ∷ rest)) all)
      (step_at rows stop at only word (slice_get rest 0)) refl
    where
      by_join : ((s : Step) (after : List Given) → length (drop (s.next - at) (word ∷ rest)) ≤ n
          → givens_from rows stop s.next s.only_plain false after (drop (s.next - at) (word ∷ rest)) ≡ Ok all
          → Cut s.next s.only_plain after (drop (s.next - at) (word ∷ rest)) all)
          → (s : Step) → step rows stop at only (word ∷ rest) ≡ Ok (Some s) → Takes at (suc (length rest)) s
          → (join : Result (List Given) WordFault) → joined rows at before s.given ≡ join
          → Cut at only before (word ∷ rest) all
      by_join go s took leads (Err fault) joins =
          no_ok fault all (sym (step_takes_twice rows stop only at before (word ∷ rest) s fault took joins) ∙ is)
      by_join go s took leads (Ok after) joins =
          let within : s.next ≤ at + suc (length rest) = omega (arith, leads.within) in
          let fewer : length (drop (s.next - at) (word ∷ rest)) ≤ n =
          omega (arith, length-drop (s.next - at) (word ∷ rest), leads.onward, short) in
          cut_behind at only before after word rest all s took leads joins
          (go s after fewer
          (sym (step_leads_on rows stop only at before after (word ∷ rest) s took joins leads.onward leads.short within)
          ∙ is))

      by_step : ((s : Step) (after : List Given) → length (drop (s.next - at) (word ∷ rest)) ≤ n
          → givens_from rows stop s.next s.only_plain false after (drop (s.next - at) (word ∷ rest)) ≡ Ok all
          → Cut s.next s.only_plain after (drop (s.next - at) (word ∷ rest)) all)
          → (r : Result Step WordFault) → step_at rows stop at only word (slice_get rest 0) ≡ r
          → Cut at only before (word ∷ rest) all
      by_step go (Err fault) took =
          no_ok fault all (sym (step_fails rows stop only at before (word ∷ rest) fault (ap stepped took)) ∙ is)
      by_step go (Ok s) took =
          by_join go s (ap stepped took)
          (takes_at at (length rest) rows stop only word (slice_get rest 0) s (some_behind rest) took)
          (joined rows at before s.given) refl

pub words_are_steps : WordsAreSteps
words_are_steps rows stop words all is = steps_from rows stop (length words) 0 false [] words all (omega arith) is
