-- A line is what its parts become, joined: rules one after the other, and the parts of a line.
-- A stage that is too long stays none; a part in front of the others is cut where `%%` stands first.
-- The hard ones are `parts_cut`, by induction over the line, and `part_step`, one part more.
use Rattle.std.proofs.Common.{◌≡◌, inl, inr, ℕ, suc, ◌+◌, ◌-◌, ◌<◌, ◌≤◌, ◌++◌, false, List, [], ◌∷◌, Option, Some, None, Result, Ok, Err, cond, codes, length, get_or, append_assoc, nat_eq, ◌^◌, drop-cons, add-one, length-drop, take_all, take, drop, refl, sym, ap, ◌∙◌, subst, arith}
use Rattle.std.proofs.lemmas.Bool.{and_right}
use Rattle.std.proofs.lemmas.List.{drop_all, drop-drop, get_or-drop}
use Rattle.std.specs.Option.{option_and_then, option_map}
use Rattle.std.specs.Result.{IsErr, IsErrAnd}
use Rattle.tt_base.specs.Occurrence.{begins_with, first_from, first_in}
use Rattle.tt_outside.specs.declared.request.Pair.{Pair}
use Rattle.substs.specs.Expansion.{Adds, AreNamed, Makes, after_all, joined, name_rules, parts, staged, within}
use Rattle.substs.proofs.ReplacementLemmas.{first_next, too_long}
use Rattle.substs.specs.Replacement.{Rule, name_rule, replaced}
use Rattle.substs.specs.declared.fail.ExpandFail.{ExpandFail}
use Rattle.substs.specs.declared.fail.ExpandFail.TheVariants.{TooLong, NoMemory}

-- where a stage was too long there is no text behind it
none_stays : (rules : List Rule) → after_all rules None ≡ None
unfolding after_all
none_stays [] = refl
none_stays (rule ∷ rules) = none_stays rules

-- what fails at a stage fails
pub stops : (rules : List Rule) (failed : ExpandFail) (stage : Option (List ℕ)) → Makes (Err failed) stage
    → Makes (Err failed) (after_all rules stage)
stops rules TooLong stage is = ap (after_all rules) is ∙ none_stays rules
stops rules NoMemory stage is = tt

-- some rules and those behind them
after_both : (front behind : List Rule) (text : Option (List ℕ))
    → after_all (front ++ behind) text ≡ after_all behind (after_all front text)
unfolding after_all
after_both [] behind text = refl
after_both (rule ∷ front) behind text = after_both front behind (staged rule text)

all_three : (front middle behind : List Rule) (text : Option (List ℕ))
    → after_all (front ++ middle ++ behind) text ≡ after_all behind (after_all middle (after_all front text))
all_three front middle behind text =
    after_both (front ++ middle) behind text ∙ ap (after_all behind) (after_both front middle text)

pub in_three : (front middle behind : List Rule) (text : Option (List ℕ)) (made : Result (List ℕ) ExpandFail)
    → Makes made (after_all behind (after_all middle (after_all front text)))
    → Makes made (after_all (front ++ middle ++ behind) text)
in_three front middle behind text made is = subst (Makes made) (sym (all_three front middle behind text)) is

-- ---- one rule

pub stage_step : (rule : Rule) (rules : List Rule) (text made : List ℕ) → within (replaced rule text) ≡ Some made
    → after_all (rule ∷ rules) (Some text) ≡ after_all rules (Some made)
unfolding after_all
stage_step rule rules text made is = ap (after_all rules) is

pub stage_fails : (rule : Rule) (rules : List Rule) (text : List ℕ) (failed : ExpandFail)
    → Makes (Err failed) (within (replaced rule text)) → Makes (Err failed) (after_all (rule ∷ rules) (Some text))
unfolding after_all
stage_fails rule rules text failed is = stops rules failed (within (replaced rule text)) is

pub stage_last : (rule : Rule) (text : List ℕ) (made : Result (List ℕ) ExpandFail)
    → Makes made (within (replaced rule text)) → Makes made (after_all (rule ∷ []) (Some text))
unfolding after_all
stage_last rule text made is = is

-- ---- names in their order

pub names_opened : (pairs : List Pair) (i : ℕ) (pair : Pair) → i < length pairs → pair ≡ get_or pairs i pair
    → name_rules (drop i pairs) ≡ name_rule pair.name pair.value ∷ name_rules (drop (i + 1) pairs)
names_opened pairs i pair inside is =
    ap name_rules (drop-cons pairs i pair inside ∙ ap (λ n. get_or pairs i pair ∷ drop n pairs) (sym (add-one i)))
    ∙ ap (λ p. name_rule p.name p.value ∷ name_rules (drop (i + 1) pairs)) (sym is)

pub names_end : (pairs : List Pair) (i : ℕ) (text : List ℕ) → length pairs ≤ i
    → after_all (name_rules (drop i pairs)) (Some text) ≡ Some text
unfolding after_all
names_end pairs i text ends = ap (λ l. after_all (name_rules l) (Some text)) (drop_all i pairs ends)

-- names behind some are named
pub named_behind : (pairs : List Pair) (first : ℕ) → AreNamed pairs
    → AreNamed (take (length pairs - first) (drop first pairs))
named_behind pairs first named =
    subst AreNamed
    (sym (take_all (length pairs - first) (drop first pairs) (omega (arith, length-drop first pairs))))
    (λ k d inside.
    let there : get_or (drop first pairs) k d ≡ get_or pairs (first + k) d = get_or-drop first pairs k d in
    subst (λ p. 0 < length p.name) (sym there) (named (first + k) d (omega (arith, length-drop first pairs, inside))))

-- what stands in front, and the parts behind it
abbrev pub behind_made : List Rule → List ℕ → List ℕ × List (List ℕ) → Option (List ℕ)
behind_made rules made p = option_and_then within (option_map (λ b. made ++ b) (joined rules p.0 p.1))

-- ---- the parts of a line

-- one byte alone doesn't begin with two
one_byte : (a : ℕ) → begins_with (a ∷ []) (codes "%%") ≡ false
one_byte a = and_right (nat_eq 37 a) false refl

-- a first part of so many bytes, and those behind the `%%` there
abbrev cut_at : ℕ → List ℕ → List ℕ × List (List ℕ)
cut_at n text = (take n text, (parts (drop (n + 2) text)).0 ∷ (parts (drop (n + 2) text)).1)

-- where a line doesn't begin with `%%` its first byte belongs to the first part
parts_next : (a b : ℕ) (rest : List ℕ) → begins_with (a ∷ b ∷ rest) (codes "%%") ≡ false
    → parts (a ∷ b ∷ rest) ≡ (a ∷ (parts (b ∷ rest)).0, (parts (b ∷ rest)).1)
unfolding parts
parts_next a b rest none =
    ap (λ t. cond t ([], (parts rest).0 ∷ (parts rest).1) (a ∷ (parts (b ∷ rest)).0, (parts (b ∷ rest)).1)) none

-- the first part ends where `%%` stands first
parts_cut : (text : List ℕ) (from at : ℕ) → Some at ≡ first_from (codes "%%") from text
    → (from ≤ at) × (parts text ≡ cut_at (at - from) text)
unfolding first_from parts
parts_cut [] from at is = cc
parts_cut (a ∷ []) from at is = cc (is ∙ ap (λ t. cond t (Some from) None) (one_byte a))
parts_cut (a ∷ b ∷ rest) from at is = elim (first_next (codes "%%") from a (b ∷ rest) (Some at) is) [
  | inl here ↦
      let same : at ≡ from = cc (here.1) in
      let none : at - from ≡ 0 = omega (arith, same) in (
        omega (arith, same),
        ap (λ t. cond t ([], (parts rest).0 ∷ (parts rest).1) (a ∷ (parts (b ∷ rest)).0, (parts (b ∷ rest)).1)) here.0
            ∙ sym (ap (λ n. cut_at n (a ∷ b ∷ rest)) none),
      )
  | inr later ↦
      let found = parts_cut (b ∷ rest) (from + 1) at later.1 in
      let one : at - from ≡ suc (at - (from + 1)) = omega (arith, found.0) in
      let two : suc (at - (from + 1)) + 2 ≡ suc (at - (from + 1) + 2) = omega arith in (
        omega (arith, found.0),
        parts_next a b rest later.0 ∙ ap (λ p. (a ∷ p.0, p.1)) found.1
            ∙ sym (ap (λ n. cut_at n (a ∷ b ∷ rest)) one
            ∙ ap (λ n. (
              a ∷ take (at - (from + 1)) (b ∷ rest),
              (parts (drop n (a ∷ b ∷ rest))).0 ∷ (parts (drop n (a ∷ b ∷ rest))).1,
            )) two),
      )
]

-- where it stands nowhere the text is one part
parts_none : (text : List ℕ) (from : ℕ) → None ≡ first_from (codes "%%") from text → parts text ≡ (text, [])
unfolding parts
parts_none [] from is = refl
parts_none (a ∷ []) from is = refl
parts_none (a ∷ b ∷ rest) from is = elim (first_next (codes "%%") from a (b ∷ rest) None is) [
  | inl here ↦ cc (here.1)
  | inr later ↦ parts_next a b rest later.0 ∙ ap (λ p. (a ∷ p.0, p.1)) (parts_none (b ∷ rest) (from + 1) later.1)
]

-- ---- a part and those behind it

-- what stands in front of a part, and the part, stand in front of those behind
regrouped : (made part : List ℕ) (later : Option (List ℕ))
    → option_map (λ b. made ++ b) (option_map (λ b. part ++ codes "%" ++ b) later)
    ≡ option_map (λ b. made ++ (part ++ codes "%") ++ b) later
regrouped made part None = refl
regrouped made part (Some b) = ap Some (sym (append_assoc made (part ++ codes "%") b))

-- where a front is too long nothing behind it makes it short
front_too_long : (front : List ℕ) (later : Option (List ℕ)) → 2 ^ 20 < length front
    → option_and_then within (option_map (λ b. front ++ b) later) ≡ None
front_too_long front None long = refl
front_too_long front (Some b) long = too_long front b (front ++ b) long refl

-- what is left of a line, as the search slices it
left_of : (line : List ℕ) (from : ℕ) → from ≤ length line → take (length line - from) (drop from line) ≡ drop from line
left_of line from inside = take_all (length line - from) (drop from line) (omega (arith, length-drop from line))

-- a line in which `%%` stands next
module _ (rules : List Rule) (made line : List ℕ) (from at : ℕ) (whole : Option (List ℕ))
    (is : Some at ≡ first_in line (codes "%%") from (length line)) (inside : from ≤ length line)
    (rest : behind_made rules made (parts (drop from line)) ≡ whole) where
  abbrev pub part : List ℕ
  part = take (at - from) (drop from line)

  abbrev pub next : List ℕ × List (List ℕ)
  next = parts (drop (at + 2) line)

  -- the part, as it is expanded, with what stands on either side
  abbrev pub around : Option (List ℕ) → Option (List ℕ)
  around o = option_and_then within (option_map (λ b. made ++ b)
      (option_and_then (λ front. option_map (λ behind. front ++ codes "%" ++ behind) (joined rules next.0 next.1)) o))

  so_far : around (after_all rules (within part)) ≡ whole
  so_far =
      let cut = parts_cut (drop from line) from at (is ∙ ap (first_from (codes "%%") from) (left_of line from inside)) in
      let there : from + (at - from + 2) ≡ at + 2 = omega (arith, cut.0) in
      let dropped = drop-drop (at - from + 2) from line ∙ ap (λ n. drop n line) there in
      ap (λ l. behind_made rules made (part, (parts l).0 ∷ (parts l).1)) (sym dropped)
      ∙ ap (λ p. behind_made rules made p) (sym cut.1) ∙ rest

  pub part_fails : (failed : ExpandFail) → Makes (Err failed) (after_all rules (within part)) → Makes (Err failed) whole
  part_fails TooLong none = sym so_far ∙ ap around none
  part_fails NoMemory none = tt

  pub part_step : (p new : List ℕ) → Makes (Ok p) (after_all rules (within part)) → new ≡ made ++ (p ++ codes "%")
      → behind_made rules new next ≡ whole
  part_step p new is_p grown =
      ap (λ m. behind_made rules m next) grown
      ∙ ap (option_and_then within) (sym (regrouped made p (joined rules next.0 next.1)))
      ∙ sym (ap around is_p.0) ∙ so_far

  pub part_too_long : (p new : List ℕ) (failed : ExpandFail) → Makes (Ok p) (after_all rules (within part))
      → Adds made (p ++ codes "%") new (Err failed) → Makes (Err failed) whole
  part_too_long p new TooLong is_p long =
      sym (part_step p (made ++ (p ++ codes "%")) is_p refl)
      ∙ front_too_long (made ++ (p ++ codes "%")) (joined rules next.0 next.1) long
  part_too_long p new NoMemory is_p long = tt

-- a line in which it stands nowhere
module _ (rules : List Rule) (made line : List ℕ) (from : ℕ) (whole : Option (List ℕ))
    (is : None ≡ first_in line (codes "%%") from (length line)) (inside : from ≤ length line)
    (rest : behind_made rules made (parts (drop from line)) ≡ whole) where
  abbrev pub last : List ℕ
  last = take (length line - from) (drop from line)

  abbrev pub behind : Option (List ℕ) → Option (List ℕ)
  behind o = option_and_then within (option_map (λ b. made ++ b) o)

  ends : behind (after_all rules (within last)) ≡ whole
  ends =
      let left = left_of line from inside in
      ap (λ l. behind (after_all rules (within l))) left ∙ ap (λ p. behind_made rules made p)
      (sym (parts_none (drop from line) from (is ∙ ap (first_from (codes "%%") from) left))) ∙ rest

  pub last_fails : (failed : ExpandFail) → Makes (Err failed) (after_all rules (within last)) → Makes (Err failed) whole
  last_fails TooLong none = sym ends ∙ ap behind none
  last_fails NoMemory none = tt

  pub last_is : (p : List ℕ) → Makes (Ok p) (after_all rules (within last)) → within (made ++ p) ≡ whole
  last_is p is_p = sym (ap behind is_p.0) ∙ ends

-- what is handed on fails as it did
pub handed : (o : Result (List ℕ) ExpandFail) (failed : ExpandFail) (due : Option (List ℕ)) → IsErr o
    → IsErrAnd o (λ e. e ≡ failed) → Makes (Err failed) due → Makes o due
handed (Err e) failed due is same made = subst (λ f. Makes (Err f) due) (sym same) made
handed (Ok x) failed due is same made = cc
