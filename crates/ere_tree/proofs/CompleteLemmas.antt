-- A text of the grammar is read as its tree: each construct adds to the rest of the text what the productions
-- say. `Goes` says that from a place on the text says what another place's rest says, changed; such steps are put one
-- behind the other along the productions. `goes_item` is the hard one, for a group of alternatives.
use Rattle.std.proofs.Common.{◌≡◌, ℕ, ◌+◌, ◌≤◌, Bool, true, false, not, ◌&&◌, ◌||◌, ◌==◌, List, [], ◌∷◌, Option, None, Result, Ok, Err, length, map, nat_lt, nat_le, refl, sym, ap, ◌∙◌, arith}
use Rattle.std.specs.List.{list_any}
use Rattle.std.proofs.lemmas.Bool.Decides.{nat_tests}
use Rattle.std.proofs.lemmas.List.{length-map}
use Rattle.ere_tree.specs.Tree.{Tree}
use Rattle.ere_tree.specs.Token.{Token, byte, one_of, same_as, item, bar, open_group, close_group, token}
use Rattle.ere_tree.specs.Token as tokens
use Rattle.ere_tree.specs.Grammar.{Rest, ends, closes, in_branch, behind_bar, grouped, from_token, reading_from, tree_read, whole}
use Rattle.ere_tree.specs.Fault.{map_ok}
use Rattle.ere_tree.specs.Place.{Open, Place, is_open, is_closed, after_bar, refusal, beginning, behind}
use Rattle.ere_tree.specs.Productions.{Alts, Branch, Item, alone, or, only, also, simple, empty_group, group_of, Takes, SpellsItem, SpellsBranch, SpellsAlts, groups_item, groups_branch, groups_alts, may_stand, SoundItem, SoundBranch, SoundAlts, with_token, parts_item, parts_branch, first_branch, other_branches, IsEre}
use Rattle.ere_tree.specs.declared.fault.EreFault.{EreFault}
use Rattle.std.proofs.Common.{inl, inr}
use Rattle.ere_tree.specs.declared.bound.Bound.{Bound}
use Rattle.ere_tree.specs.declared.level.Last.{Last}
use Rattle.ere_tree.specs.declared.level.Last.TheVariants.{Nothing, Bar, Part}
use Rattle.ere_tree.proofs.ReadingLemmas.{reading_taken}

-- the numbers of the groups that a place is in, the whole being number 0
abbrev pub numbers : Place → List ℕ
numbers place = place.inner.number ∷ map (λ level. level.number) place.outer

-- the place behind a construct in a branch
abbrev pub past : Place → ℕ → Place
past place n = record place { groups = n; last = Part }

pub any_number : (number : ℕ) (levels : List Open) →
    list_any (λ m. m == number) (map (λ level. level.number) levels)
    ≡ list_any (λ level. level.number == number) levels
any_number number [] = refl
any_number number (level ∷ levels) = ap (λ v. (level.number == number) || v) (any_number number levels)

pub open_number : (place : Place) (number : ℕ) → list_any (λ m. m == number) (numbers place) ≡ is_open place number
open_number place number = ap (λ v. (place.inner.number == number) || v) (any_number number place.outer)

token_stands : (place : Place) (t : Token) → may_stand (numbers place) place.groups t ≡ true → refusal place t ≡ None
token_stands place (item (byte b) bound) is = refl
token_stands place (item (one_of negated bytes) bound) is = refl
token_stands place (item (same_as number) bound) is =
    let closed : is_closed place number ≡ true =
    ap (λ v. nat_le number place.groups && not v) (sym (open_number place number)) ∙ is in
    rw closed refl
token_stands place tokens.line_start is = refl
token_stands place tokens.line_end is = refl
token_stands place bar is = cc
token_stands place open_group is = cc
token_stands place (close_group bound) is = cc

-- From a place on the text says what another place's rest says, changed.
abbrev pub Goes : Bool → Place → ℕ → List ℕ → (Rest → Rest) → Place → List ℕ → Type 0
Goes fold place at text change next rest =
    (to : ℕ) × (reading_from fold place at 0 text ≡ map_ok change (reading_from fold next to 0 rest))

map_ok-map_ok : (f g : Rest → Rest) (read : Result Rest EreFault) → map_ok f (map_ok g read) ≡ map_ok (λ r. f (g r)) read
map_ok-map_ok f g (Ok r) = refl
map_ok-map_ok f g (Err e) = refl

map_ok-agree : (f g : Rest → Rest) (read : Result Rest EreFault) → ((r : Rest) → f r ≡ g r) → map_ok f read ≡ map_ok g read
map_ok-agree f g (Ok r) same = ap Ok (same r)
map_ok-agree f g (Err e) same = refl

goes_on : (fold : Bool) (place : Place) (at : ℕ) (text : List ℕ) (f g h : Rest → Rest) (next last : Place)
    (mid rest : List ℕ) →
    Goes fold place at text f next mid → ((to : ℕ) → Goes fold next to mid g last rest) →
    ((r : Rest) → f (g r) ≡ h r) →
    Goes fold place at text h last rest
goes_on fold place at text f g h next last mid rest (to, here) on same =
    let more = on to in (
      more.0,
      here ∙ ap (map_ok f) more.1 ∙ map_ok-map_ok f g (reading_from fold last more.0 0 rest)
          ∙ map_ok-agree (λ r. f (g r)) h (reading_from fold last more.0 0 rest) same,
    )

goes_token : (fold : Bool) (place : Place) (at : ℕ) (text : List ℕ) (t : Token) (rest : List ℕ) → Takes text t rest →
    refusal place t ≡ None → Goes fold place at text (from_token fold (place.groups + 1) t) (behind place at t) rest
goes_token fold place at text t rest (count, is, some, fits, same) here = (
  at + count,
  reading_taken fold place at text (t, count) is here some fits
      ∙ ap (λ more. map_ok (from_token fold (place.groups + 1) t)
      (reading_from fold (behind place at t) (at + count) 0 more))
      (sym same),
)

goes_simple : (fold : Bool) (place : Place) (at : ℕ) (text : List ℕ) (t : Token) (rest : List ℕ) → Takes text t rest →
    may_stand (numbers place) place.groups t ≡ true →
    Goes fold place at text (in_branch (with_token fold t)) (past place place.groups) rest
goes_simple fold place at text (item atom bound) rest takes is =
    goes_token fold place at text (item atom bound) rest takes (token_stands place (item atom bound) is)
goes_simple fold place at text tokens.line_start rest takes is =
    goes_token fold place at text tokens.line_start rest takes refl
goes_simple fold place at text tokens.line_end rest takes is =
    goes_token fold place at text tokens.line_end rest takes refl
goes_simple fold place at text bar rest takes is = cc
goes_simple fold place at text open_group rest takes is = cc
goes_simple fold place at text (close_group bound) rest takes is = cc

-- what alternatives say with the rest behind them
abbrev pub rest_alts : Bool → ℕ → Alts → Rest → Rest
rest_alts fold n (alone branch) r = in_branch (parts_branch fold n branch) r
rest_alts fold n (or branch alts) r =
    in_branch (parts_branch fold n branch) (behind_bar (rest_alts fold (groups_branch n branch) alts r))

alts_closed : (fold : Bool) (n : ℕ) (alts : Alts) (bound : Option Bound) (r : Rest) →
    rest_alts fold n alts (closes [] [] bound r)
    ≡ closes (first_branch fold n alts) (other_branches fold n alts) bound r
alts_closed fold n (alone branch) bound r = refl
alts_closed fold n (or branch alts) bound r =
    ap (λ r. in_branch (parts_branch fold n branch) (behind_bar r))
    (alts_closed fold (groups_branch n branch) alts bound r)

alts_ended : (fold : Bool) (n : ℕ) (alts : Alts) →
    rest_alts fold n alts (ends [] []) ≡ ends (first_branch fold n alts) (other_branches fold n alts)
alts_ended fold n (alone branch) = refl
alts_ended fold n (or branch alts) =
    ap (λ r. in_branch (parts_branch fold n branch) (behind_bar r)) (alts_ended fold (groups_branch n branch) alts)

in_branch_twice : (f g : List Tree → List Tree) (r : Rest) →
    in_branch f (in_branch g r) ≡ in_branch (λ parts. f (g parts)) r
in_branch_twice f g (ends here others) = refl
in_branch_twice f g (closes here others bound outside) = refl

room : (place : Place) → length (numbers place) ≤ 250 → refusal place open_group ≡ None
room place fits =
    let long = length-map place.outer (λ (level : Open). level.number) in
    let shallow : nat_lt (length place.outer) 250 ≡ true = grind (arith, nat_tests) in
    rw shallow refl

-- a `)` behind a group's alternatives, or behind its `(`
goes_close : (fold : Bool) (place : Place) (at : ℕ) (n m : ℕ) (last : Last) (text : List ℕ) (bound : Option Bound)
    (rest : List ℕ) →
    after_bar last ≡ false → Takes text (close_group bound) rest →
    Goes fold (record {
      groups = n;
      inner = record { at = m; number = place.groups + 1 };
      outer = place.inner ∷ place.outer;
      last = last;
    })
    at text (λ r. closes [] [] bound r) (past place n) rest
goes_close fold place at n m last text bound rest free takes =
    let inside : Place = record {
      groups = n;
      inner = record { at = m; number = place.groups + 1 };
      outer =
          place.inner ∷ place.outer;
      last = last;
    } in
    let some : nat_lt 0 (length (place.inner ∷ place.outer)) ≡ true = grind (arith, nat_tests) in
    let here : refusal inside (close_group bound) ≡ None = rw (some, free) refl in
    goes_token fold inside at text (close_group bound) rest takes here

mutual
  goes_item : (one : Item) (fold : Bool) (place : Place) (at : ℕ) (text rest : List ℕ) → SpellsItem text one rest →
      SoundItem (numbers place) place.groups one →
      Goes fold place at text (in_branch (parts_item fold place.groups one))
      (past place (groups_item place.groups one)) rest
  goes_item (simple t) fold place at text rest spells sound = goes_simple fold place at text t rest spells sound
  goes_item (empty_group bound) fold place at text rest (inside, opens, shuts) sound =
      goes_on fold place at text (grouped (place.groups + 1)) (λ r. closes [] [] bound r)
      (in_branch (parts_item fold place.groups (empty_group bound)))
      (behind place at open_group) (past place (place.groups + 1)) inside rest
      (goes_token fold place at text open_group inside opens (room place sound))
      (λ to. goes_close fold place to (place.groups + 1) at Nothing inside bound rest refl shuts)
      (λ r. refl)
  goes_item (group_of alts bound) fold place at text rest (inside, end, opens, spells, shuts) sound =
      let n : ℕ = place.groups + 1 in
      let within : Place = behind place at open_group in
      goes_on fold place at text (grouped n) (λ r. rest_alts fold n alts (closes [] [] bound r))
      (in_branch (parts_item fold place.groups (group_of alts bound)))
      within (past place (groups_alts n alts)) inside rest
      (goes_token fold place at text open_group inside opens (room place sound.0))
      (λ to. goes_on fold within to inside (rest_alts fold n alts) (λ r. closes [] [] bound r)
      (λ r. rest_alts fold n alts (closes [] [] bound r))
      (past within (groups_alts n alts)) (past place (groups_alts n alts)) end rest
      (goes_alts alts fold within to inside end spells sound.1)
      (λ then. goes_close fold place then (groups_alts n alts) at Part end bound rest refl shuts)
      (λ r. refl))
      (λ r. ap (grouped n) (alts_closed fold n alts bound r))

  goes_branch : (branch : Branch) (fold : Bool) (place : Place) (at : ℕ) (text rest : List ℕ) →
      SpellsBranch text branch rest →
      SoundBranch (numbers place) place.groups branch →
      Goes fold place at text (in_branch (parts_branch fold place.groups branch))
      (past place (groups_branch place.groups branch)) rest
  goes_branch (only one) fold place at text rest spells sound = goes_item one fold place at text rest spells sound
  goes_branch (also one branch) fold place at text rest (mid, first, others) sound =
      let n : ℕ = groups_item place.groups one in
      goes_on fold place at text (in_branch (parts_item fold place.groups one))
      (in_branch (parts_branch fold n branch))
      (in_branch (parts_branch fold place.groups (also one branch)))
      (past place n) (past place (groups_branch n branch)) mid rest
      (goes_item one fold place at text mid first sound.0)
      (λ to. goes_branch branch fold (past place n) to mid rest others sound.1)
      (λ r. in_branch_twice (parts_item fold place.groups one) (parts_branch fold n branch) r)

  goes_alts : (alts : Alts) (fold : Bool) (place : Place) (at : ℕ) (text rest : List ℕ) → SpellsAlts text alts rest →
      SoundAlts (numbers place) place.groups alts →
      Goes fold place at text (rest_alts fold place.groups alts) (past place (groups_alts place.groups alts)) rest
  goes_alts (alone branch) fold place at text rest spells sound =
      goes_branch branch fold place at text rest spells sound
  goes_alts (or branch alts) fold place at text rest (end, mid, first, takes, others) sound =
      let n : ℕ = groups_branch place.groups branch in
      let next : Place = record place { groups = n; last = Bar } in
      goes_on fold place at text (in_branch (parts_branch fold place.groups branch))
      (λ r. behind_bar (rest_alts fold n alts r)) (rest_alts fold place.groups (or branch alts))
      (past place n) (past place (groups_alts n alts)) end rest
      (goes_branch branch fold place at text end first sound.0)
      (λ to. goes_on fold (past place n) to end behind_bar (rest_alts fold n alts)
      (λ r. behind_bar (rest_alts fold n alts r))
      next (past place (groups_alts n alts)) mid rest
      (goes_token fold (past place n) to end bar mid takes refl)
      (λ then. goes_alts alts fold next then mid rest others sound.1)
      (λ r. refl))
      (λ r. refl)

-- a text of the grammar is read
pub grammar_read : (fold : Bool) (text : List ℕ) (tree : Tree) → IsEre fold text tree → tree_read fold text ≡ Ok tree
unfolding tree_read reading_from
grammar_read fold text tree (inl (none, is)) = rw (none, is) refl
grammar_read fold text tree (inr (alts, spells, sound, is)) =
    let goes = goes_alts alts fold beginning 0 text [] spells sound in
    ap (map_ok whole) goes.1 ∙ ap (λ r. Ok (whole r)) (alts_ended fold 0 alts) ∙ ap Ok (sym is)
