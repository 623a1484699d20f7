-- What a text becomes where a rule replaces what it finds: up to a place nothing, there what is found, and so on.
-- By induction over the text up to where the front of a rule first stands; each piece that a loop adds is one lemma (`*_piece`).
-- The hard one is `up_to`; the limits at the end say when a whole is too long.
use Rattle.std.proofs.Common.{◌≡◌, ◌⊎◌, inl, inr, ℕ, ℤ, zero, suc, ◌+◌, ◌-◌, ◌<◌, ◌≤◌, ◌++◌, Bool, true, false, List, [], ◌∷◌, Option, Some, None, Ok, Err, cond, nat_le, ◌^◌, length, length-append, length-drop, take_all, append_assoc, append-nil, drop-cons, add-one, get_or, take, drop, refl, sym, ap, ◌∙◌, arith}
use Rattle.std.proofs.lemmas.List.{drop-drop, get_or-drop, take_more}
use Rattle.std.specs.Fmt.{signed_decimal}
use Rattle.std.specs.Option.{option_map}
use Rattle.tt_base.specs.Occurrence.{begins_with, first_from, first_in}
use Rattle.std.proofs.lemmas.Bool.Decides.{nat_tests}
use Rattle.substs.specs.Expansion.{Adds, Makes, within}
use Rattle.substs.specs.declared.fail.ExpandFail.{ExpandFail}
use Rattle.substs.specs.declared.fail.ExpandFail.TheVariants.{TooLong, NoMemory}
use Rattle.substs.specs.Replacement.{Rule, closed_number, form_rule, name_rule, put_for, replaced, replaced_behind}

-- what belongs to what was found is left out
skipped : (rule : Rule) (skip : ℕ) (text : List ℕ) → replaced_behind rule skip text ≡ replaced rule (drop skip text)
unfolding replaced_behind
skipped rule zero text = refl
skipped rule (suc skip) [] = refl
skipped rule (suc skip) (byte ∷ rest) = skipped rule skip rest

-- what is found at the front gives way
found_here : (rule : Rule) (text value : List ℕ) (len : ℕ) → rule text ≡ Some (len, value) → 0 < len
    → len ≤ length text → replaced rule text ≡ value ++ replaced rule (drop len text)
unfolding replaced_behind
found_here rule [] value len is more fits = absurd (omega (arith, more, fits))
found_here rule (byte ∷ rest) value zero is more fits = elim more [ ]
found_here rule (byte ∷ rest) value (suc k) is more fits =
    let one : suc k - 1 ≡ k = omega arith in
    ap (λ o. put_for o byte (λ skip. replaced_behind rule skip rest)) is
    ∙ ap (λ n. value ++ replaced_behind rule n rest) one ∙ ap (λ t. value ++ t) (skipped rule k rest)

-- where nothing is found at the front its byte stays
past_here : (rule : Rule) (byte : ℕ) (rest : List ℕ) → rule (byte ∷ rest) ≡ None
    → replaced rule (byte ∷ rest) ≡ byte ∷ replaced rule rest
unfolding replaced_behind
past_here rule byte rest is = ap (λ o. put_for o byte (λ skip. replaced_behind rule skip rest)) is

-- a rule that finds something only where a front stands
abbrev pub NeedsFront : List ℕ → Rule → Type 0
NeedsFront front rule = (text : List ℕ) → begins_with text front ≡ false → rule text ≡ None

-- a needle that isn't empty stands nowhere in nothing
none_in_nothing : (needle : List ℕ) (at : ℕ) → 0 < length needle → first_from needle at [] ≡ None
unfolding first_from
none_in_nothing [] at more = elim more [ ]
none_in_nothing (byte ∷ rest) at more = refl

-- the first place is the front's, or one behind it
pub first_next : (needle : List ℕ) (from byte : ℕ) (rest : List ℕ) (found : Option ℕ)
    → found ≡ first_from needle from (byte ∷ rest)
    → ((begins_with (byte ∷ rest) needle ≡ true) × (found ≡ Some from))
    ⊎ ((begins_with (byte ∷ rest) needle ≡ false) × (found ≡ first_from needle (from + 1) rest))
unfolding first_from
first_next needle from byte rest found is = by_test (begins_with (byte ∷ rest) needle) refl is
  where
    by_test : (test : Bool) → begins_with (byte ∷ rest) needle ≡ test
        → found ≡ cond test (Some from) (first_from needle (from + 1) rest)
        → ((begins_with (byte ∷ rest) needle ≡ true) × (found ≡ Some from))
        ⊎ ((begins_with (byte ∷ rest) needle ≡ false) × (found ≡ first_from needle (from + 1) rest))
    by_test true begins there = inl (begins, there)
    by_test false begins there = inr (begins, there)

module _ (front : List ℕ) (rule : Rule) (needs : NeedsFront front rule) (more : 0 < length front) where
  -- up to where its front stands first a rule changes nothing
  up_to : (text : List ℕ) (from at : ℕ) → Some at ≡ first_from front from text
      → (from ≤ at) × (begins_with (drop (at - from) text) front ≡ true)
      × (replaced rule text ≡ take (at - from) text ++ replaced rule (drop (at - from) text))
  up_to [] from at is = cc (is ∙ none_in_nothing front from more)
  up_to (byte ∷ rest) from at is = elim (first_next front from byte rest (Some at) is) [
    | inl here ↦
        let same : at ≡ from = cc (here.1) in
        let none : at - from ≡ 0 = omega (arith, same) in (
          omega (arith, same),
          ap (λ n. begins_with (drop n (byte ∷ rest)) front) none ∙ here.0,
          sym (ap (λ n. take n (byte ∷ rest) ++ replaced rule (drop n (byte ∷ rest))) none),
        )
    | inr later ↦
        let found = up_to rest (from + 1) at later.1 in
        let one : at - from ≡ suc (at - (from + 1)) = omega (arith, found.0) in (
          omega (arith, found.0),
          ap (λ n. begins_with (drop n (byte ∷ rest)) front) one ∙ found.1,
          past_here rule byte rest (needs (byte ∷ rest) later.0) ∙ ap (λ l. byte ∷ l) found.2
              ∙ sym (ap (λ n. take n (byte ∷ rest) ++ replaced rule (drop n (byte ∷ rest))) one),
        )
  ]

  -- where its front stands nowhere a rule changes nothing
  never : (text : List ℕ) (from : ℕ) → None ≡ first_from front from text → replaced rule text ≡ text
  unfolding replaced_behind
  never [] from is = refl
  never (byte ∷ rest) from is = elim (first_next front from byte rest None is) [
    | inl here ↦ cc (here.1)
    | inr later ↦ past_here rule byte rest (needs (byte ∷ rest) later.0) ∙ ap (λ l. byte ∷ l) (never rest (from + 1) later.1)
  ]

  pub never_in : (text : List ℕ) → None ≡ first_in text front 0 (length text) → replaced rule text ≡ text
  never_in text is = never text 0 (is ∙ ap (first_from front 0) (take_all (length text - 0) (drop 0 text) (omega arith)))

  module _ (text : List ℕ) (done : ℕ) (inside : done ≤ length text) where
    -- what is left of a text, as the search slices it
    rest_of : take (length text - done) (drop done text) ≡ drop done text
    rest_of = take_all (length text - done) (drop done text) (omega (arith, length-drop done text))

    -- where the front stands nowhere the rest stays
    pub last_step : (made whole : List ℕ) → made ++ replaced rule (drop done text) ≡ whole
        → None ≡ first_in text front done (length text) → made ++ take (length text - done) (drop done text) ≡ whole
    last_step made whole so_far is =
        ap (λ l. made ++ l) (rest_of ∙ sym (never (drop done text) done (is ∙ ap (first_from front done) rest_of))) ∙ so_far

    module _ (at : ℕ) (is : Some at ≡ first_in text front done (length text)) where
      -- the text up to the place where the front stands next, and from there on
      pub reached : (done ≤ at) × (begins_with (drop at text) front ≡ true)
          × (replaced rule (drop done text) ≡ take (at - done) (drop done text) ++ replaced rule (drop at text))
      reached =
          let up = up_to (drop done text) done at (is ∙ ap (first_from front done) rest_of) in
          let there : done + (at - done) ≡ at = omega (arith, up.0) in
          let dropped = drop-drop (at - done) done text ∙ ap (λ n. drop n text) there in (
            up.0,
            ap (λ l. begins_with l front) (sym dropped) ∙ up.1,
            up.2 ∙ ap (λ l. take (at - done) (drop done text) ++ replaced rule l) dropped,
          )

      -- what is found there is replaced
      pub found_piece : (len : ℕ) (value : List ℕ) → rule (drop at text) ≡ Some (len, value) → 0 < len
          → at + len ≤ length text → replaced rule (drop done text)
          ≡ (take (at - done) (drop done text) ++ value) ++ replaced rule (drop (at + len) text)
      found_piece len value finds long fits =
          reached.2 ∙ ap (λ l. take (at - done) (drop done text) ++ l)
          (found_here rule (drop at text) value len finds long (omega (arith, length-drop at text, fits))
          ∙ ap (λ l. value ++ replaced rule l) (drop-drop len at text))
          ∙ sym (append_assoc (take (at - done) (drop done text)) value (replaced rule (drop (at + len) text)))

      -- where nothing is found there its byte stays
      pub past_piece : rule (drop at text) ≡ None → at < length text
          → replaced rule (drop done text)
          ≡ take (at + 1 - done) (drop done text) ++ replaced rule (drop (at + 1) text)
      past_piece none fits =
          let byte = get_or text at 0 in
          let opened : drop at text ≡ byte ∷ drop (at + 1) text =
          drop-cons text at 0 fits ∙ ap (λ n. byte ∷ drop n text) (sym (add-one at)) in
          let piece = take (at - done) (drop done text) in
          let one : at + 1 - done ≡ at - done + 1 = omega (arith, reached.0) in
          let there : done + (at - done) ≡ at = omega (arith, reached.0) in
          let longer : take (at + 1 - done) (drop done text) ≡ piece ++ byte ∷ [] =
          ap (λ n. take n (drop done text)) one
          ∙ take_more (drop done text) (at - done) 0 (omega (arith, length-drop done text, reached.0, fits))
          ∙ ap (λ b. piece ++ b ∷ []) (get_or-drop done text (at - done) 0 ∙ ap (λ n. get_or text n 0) there) in
          reached.2 ∙ ap (λ l. piece ++ l)
          (ap (replaced rule) opened ∙ past_here rule byte (drop (at + 1) text) (sym (ap rule opened) ∙ none))
          ∙ sym (append_assoc piece (byte ∷ []) (replaced rule (drop (at + 1) text)))
          ∙ ap (λ l. l ++ replaced rule (drop (at + 1) text)) (sym longer)

-- ---- names

pub name_needs : (name value : List ℕ) → NeedsFront name (name_rule name value)
name_needs name value text absent = ap (λ t. cond t (Some (length name, value)) None) absent

-- a name that stands there is replaced
pub name_piece : (name value : List ℕ) (more : 0 < length name) (text : List ℕ) (done : ℕ) (inside : done ≤ length text)
    (at : ℕ) → Some at ≡ first_in text name done (length text) → at + length name ≤ length text
    → replaced (name_rule name value) (drop done text)
    ≡ (take (at - done) (drop done text) ++ value) ++ replaced (name_rule name value) (drop (at + length name) text)
name_piece name value more text done inside at is fits =
    let rule = name_rule name value in
    let here = reached name rule (name_needs name value) more text done inside at is in
    found_piece name rule (name_needs name value) more text done inside at is (length name) value
    (ap (λ t. cond t (Some (length name, value)) None) here.1) more fits

-- ---- forms

-- what a form with this front finds, where the front stands and this is the number behind it
abbrev form_found : List ℕ → (ℕ → ℤ) → Option (ℕ × ℕ) → Option (ℕ × List ℕ)
form_found front reckon found = option_map (λ f. (length front + f.0 + 1, signed_decimal (reckon f.1))) found

pub form_needs : (front : List ℕ) (reckon : ℕ → ℤ) → NeedsFront front (form_rule front reckon)
form_needs front reckon text absent =
    ap (λ t. cond t (form_found front reckon (closed_number (drop (length front) text))) None) absent

module _ (front : List ℕ) (reckon : ℕ → ℤ) (more : 0 < length front) (text : List ℕ) (done : ℕ)
    (inside : done ≤ length text) (at : ℕ) (is : Some at ≡ first_in text front done (length text))
    (fits : at + length front ≤ length text) where
  abbrev pub rule : Rule
  rule = form_rule front reckon

  -- what stands behind the front, as the code slices it
  abbrev pub slice : List ℕ
  slice = take (length text - (at + length front)) (drop (at + length front) text)

  slice_is : slice ≡ drop (length front) (drop at text)
  slice_is = take_all (length text - (at + length front)) (drop (at + length front) text)
      (omega (arith, length-drop (at + length front) text)) ∙ sym (drop-drop (length front) at text)

  -- where the front stands the number behind it decides
  decided : (found : Option (ℕ × ℕ)) → found ≡ closed_number slice → rule (drop at text) ≡ form_found front reckon found
  decided found closed =
      ap (λ t. cond t (form_found front reckon (closed_number (drop (length front) (drop at text)))) None)
      (reached front rule (form_needs front reckon) more text done inside at is).1
      ∙ ap (form_found front reckon) (sym (closed ∙ ap closed_number slice_is))

  -- a form that stands there is replaced
  pub form_piece : (count number : ℕ) → Some (count, number) ≡ closed_number slice → count < length slice
      → (at + length front + count + 1 ≤ length text) × (replaced rule (drop done text)
      ≡ (take (at - done) (drop done text) ++ signed_decimal (reckon number))
      ++ replaced rule (drop (at + length front + count + 1) text))
  form_piece count number closed within_slice =
      let left = ap length slice_is ∙ length-drop (length front) (drop at text)
      ∙ ap (λ n. n - length front) (length-drop at text) in
      let ends : at + (length front + count + 1) ≤ length text = omega (arith, left, within_slice, fits) in
      let there : at + (length front + count + 1) ≡ at + length front + count + 1 = omega arith in (
        omega (arith, ends),
        found_piece front rule (form_needs front reckon) more text done inside at is (length front + count + 1)
            (signed_decimal (reckon number)) (decided (Some (count, number)) closed) (omega arith) ends
            ∙ ap (λ n. (take (at - done) (drop done text) ++ signed_decimal (reckon number))
            ++ replaced rule (drop n text)) there,
      )

  -- a front that begins no form stays
  pub no_form_piece : None ≡ closed_number slice → replaced rule (drop done text)
      ≡ take (at + 1 - done) (drop done text) ++ replaced rule (drop (at + 1) text)
  no_form_piece closed =
      past_piece front rule (form_needs front reckon) more text done inside at is (decided None closed)
      (omega (arith, more, fits))

-- ---- limits

-- a text with too much at its front is too long
pub too_long : (front rest whole : List ℕ) → 2 ^ 20 < length front → front ++ rest ≡ whole → within whole ≡ None
too_long front rest whole more is =
    let long : 2 ^ 20 < length whole = omega (arith, more, length-append front rest, ap length is) in
    let test : nat_le (length whole) (2 ^ 20) ≡ false = grind (arith, nat_tests) in
    ap (λ t. cond t (Some whole) None) test

pub is_too_long : (text : List ℕ) → 2 ^ 20 < length text → within text ≡ None
is_too_long text long = too_long text [] text long (append-nil text)

pub short_enough : (text : List ℕ) → length text ≤ 2 ^ 20 → within text ≡ Some text
short_enough text short =
    let test : nat_le (length text) (2 ^ 20) ≡ true = grind (arith, nat_tests) in
    ap (λ t. cond t (Some text) None) test

-- a piece behind what is made, in front of the rest
pub onward : (made piece new rest : List ℕ) {left whole : List ℕ} → new ≡ made ++ piece → made ++ left ≡ whole
    → left ≡ piece ++ rest → new ++ rest ≡ whole
onward made piece new rest grown so_far is =
    ap (λ l. l ++ rest) grown ∙ append_assoc made piece rest ∙ ap (λ l. made ++ l) (sym is) ∙ so_far

-- what isn't added to a line would make it too long, and so would the whole
pub fails : (made piece new rest : List ℕ) {left whole : List ℕ} (failed : ExpandFail) → Adds made piece new (Err failed)
    → made ++ left ≡ whole → left ≡ piece ++ rest → Makes (Err failed) (within whole)
fails made piece new rest {left} {whole} TooLong more so_far is =
    too_long (made ++ piece) rest whole more (onward made piece (made ++ piece) rest refl so_far is)
fails made piece new rest NoMemory more so_far is = tt

-- the same where nothing follows
pub fails_last : (made piece new whole : List ℕ) (failed : ExpandFail) → Adds made piece new (Err failed)
    → made ++ piece ≡ whole → Makes (Err failed) (within whole)
fails_last made piece new whole failed more is = fails made piece new [] failed more is (sym (append-nil piece))

-- a line to which the last piece was added is the whole
pub makes_last : (made piece new whole : List ℕ) → (new ≡ made ++ piece) × (length new ≤ 2 ^ 20) → made ++ piece ≡ whole
    → Makes (Ok new) (within whole)
makes_last made piece new whole added is =
    let same : new ≡ whole = added.0 ∙ is in (ap within (sym same) ∙ short_enough new added.1, added.1)

-- a copy that is short is a stage
pub copied : (text copy : List ℕ) → copy ≡ text → length text ≤ 2 ^ 20 → Some copy ≡ within text
copied text copy same short = ap Some same ∙ sym (short_enough text short)
