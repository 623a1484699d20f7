-- A text that is read is in the grammar: from each place on it is what is left of constructs, up to the end.
-- A `Tail` is what is left: of the branch at hand, of those behind it, and behind the `)` of the level. Each token
-- before a tail gives a tail again. `told_open` is the hard one, where a tail becomes a group.
use Rattle.std.proofs.Common.{◌≡◌, ℕ, zero, suc, ◌+◌, ◌-◌, ◌<◌, ◌≤◌, Bool, true, false, cond, not, ◌&&◌, ◌==◌, inl, inr, List, [], ◌∷◌, Option, Some, None, Result, Ok, Err, length, map, drop, nat_lt, nat_le, refl, sym, ap, subst, ◌∙◌, arith}
use Rattle.std.proofs.lemmas.Bool.Decides.{nat_tests}
use Rattle.std.proofs.lemmas.List.{length-map}
use Rattle.ere_tree.specs.Tree.{Tree}
use Rattle.ere_tree.specs.Fault.{and_then}
use Rattle.ere_tree.specs.Token.{Token, byte, one_of, same_as, item, bar, open_group, close_group, token}
use Rattle.ere_tree.specs.Token as tokens
use Rattle.ere_tree.specs.Grammar.{Rest, ends, closes, in_branch, behind_bar, grouped, from_token, ended, reading_from, tree_read, whole}
use Rattle.ere_tree.specs.Fault.{map_ok, unless}
use Rattle.ere_tree.specs.Place.{Open, Place, is_closed, after_bar, after_part, refusal, refusal_at_end, beginning, behind}
use Rattle.ere_tree.specs.Productions.{Alts, Branch, Item, alone, or, only, also, simple, empty_group, group_of, Takes, SpellsItem, SpellsBranch, SpellsAlts, groups_item, groups_branch, groups_alts, SoundItem, SoundBranch, SoundAlts, parts_item, parts_branch, first_branch, other_branches, IsEre}
use Rattle.ere_tree.specs.declared.bound.Bound.{Bound}
use Rattle.ere_tree.specs.declared.fault.EreFault.{EreFault}
use Rattle.ere_tree.specs.declared.fault.EreKind.{EreKind}
use Rattle.ere_tree.specs.declared.level.Last.{Last}
use Rattle.ere_tree.specs.declared.level.Last.TheVariants.{Nothing, Bar, Part}
use Rattle.ere_tree.specs.declared.fault.EreKind.TheVariants.{EmptyAlternative, BadReference, TooDeep}
use Rattle.ere_tree.proofs.CompleteLemmas.{numbers, open_number}
use Rattle.std.specs.List.{list_any}
use Rattle.std.specs.Result.{IfOk}
use Rattle.ere_tree.proofs.FitLemmas.{token_within}

-- What is left from a place on: of the branch there, of the branches behind it, and behind the `)` of the
-- level.
pub data Tail : Type 0 where
  stop : Option Branch → Option Alts → Tail
  shut : Option Branch → Option Alts → Option Bound → Tail → Tail

abbrev SpellsHere : List ℕ → Option Branch → List ℕ → Type 0
SpellsHere text None rest = rest ≡ text
SpellsHere text (Some branch) rest = SpellsBranch text branch rest

abbrev SpellsOthers : List ℕ → Option Alts → List ℕ → Type 0
SpellsOthers text None rest = rest ≡ text
SpellsOthers text (Some alts) rest = (behind : List ℕ) × Takes text bar behind × SpellsAlts behind alts rest

abbrev SpellsTail : List ℕ → Tail → Type 0
SpellsTail text (stop here others) = (mid : List ℕ) × SpellsHere text here mid × SpellsOthers mid others []
SpellsTail text (shut here others bound tail) = (mid : List ℕ) × (end : List ℕ) × (outside : List ℕ) ×
    SpellsHere text here mid × SpellsOthers mid others end × Takes end (close_group bound) outside
    × SpellsTail outside tail

abbrev groups_here : ℕ → Option Branch → ℕ
groups_here n None = n
groups_here n (Some branch) = groups_branch n branch

abbrev groups_others : ℕ → Option Alts → ℕ
groups_others n None = n
groups_others n (Some alts) = groups_alts n alts

abbrev SoundHere : List ℕ → ℕ → Option Branch → Type 0
SoundHere around n None = Unit {0}
SoundHere around n (Some branch) = SoundBranch around n branch

abbrev SoundOthers : List ℕ → ℕ → Option Alts → Type 0
SoundOthers around n None = Unit {0}
SoundOthers around n (Some alts) = SoundAlts around n alts

-- the tail ends as many levels as there are
abbrev SoundTail : List ℕ → ℕ → Tail → Type 0
SoundTail [] n tail = ⊥
SoundTail (k ∷ []) n (stop here others) = SoundHere (k ∷ []) n here × SoundOthers (k ∷ []) (groups_here n here) others
SoundTail (k ∷ []) n (shut here others bound tail) = ⊥
SoundTail (k ∷ l ∷ around) n (stop here others) = ⊥
SoundTail (k ∷ l ∷ around) n (shut here others bound tail) = SoundHere (k ∷ l ∷ around) n here ×
    SoundOthers (k ∷ l ∷ around) (groups_here n here) others ×
    SoundTail (l ∷ around) (groups_others (groups_here n here) others) tail

abbrev parts_here : Bool → ℕ → Option Branch → List Tree
parts_here fold n None = []
parts_here fold n (Some branch) = parts_branch fold n branch []

abbrev branches_of : Bool → ℕ → Option Alts → List (List Tree)
branches_of fold n None = []
branches_of fold n (Some alts) = first_branch fold n alts ∷ other_branches fold n alts

abbrev rest_tail : Bool → ℕ → Tail → Rest
rest_tail fold n (stop here others) = ends (parts_here fold n here) (branches_of fold (groups_here n here) others)
rest_tail fold n (shut here others bound tail) = closes (parts_here fold n here)
    (branches_of fold (groups_here n here) others) bound
    (rest_tail fold (groups_others (groups_here n here) others) tail)

-- no branch is empty, but for the only one of a level
abbrev Fine : Last → Option Branch → Option Alts → Type 0
Fine Part here others = Unit {0}
Fine Bar None others = ⊥
Fine Bar (Some branch) others = Unit {0}
Fine Nothing None None = Unit {0}
Fine Nothing None (Some alts) = ⊥
Fine Nothing (Some branch) others = Unit {0}

abbrev FineTail : Last → Tail → Type 0
FineTail last (stop here others) = Fine last here others
FineTail last (shut here others bound tail) = Fine last here others

-- from a place on the text is a tail, which says this
pub record Told (fold : Bool) (around : List ℕ) (n : ℕ) (last : Last) (text : List ℕ) (says : Rest) : Type 0 where
  tail : Tail
  spells : SpellsTail text tail
  sound : SoundTail around n tail
  fine : FineTail last tail
  is : says ≡ rest_tail fold n tail

abbrev ToldAt : Bool → Place → List ℕ → Rest → Type 0
ToldAt fold place text says = Told fold (numbers place) place.groups place.last text says

-- an item before a tail

abbrev with_front : Item → Option Branch → Branch
with_front one None = only one
with_front one (Some branch) = also one branch

abbrev fronted : Item → Tail → Tail
fronted one (stop here others) = stop (Some (with_front one here)) others
fronted one (shut here others bound tail) = shut (Some (with_front one here)) others bound tail

fine_some : (last : Last) (branch : Branch) (others : Option Alts) → Fine last (Some branch) others
fine_some Part branch others = tt
fine_some Bar branch others = tt
fine_some Nothing branch others = tt

fine_front : (last : Last) (one : Item) (tail : Tail) → FineTail last (fronted one tail)
fine_front last one (stop here others) = fine_some last (with_front one here) others
fine_front last one (shut here others bound tail) = fine_some last (with_front one here) others

spells_here : (one : Item) (text mid end : List ℕ) (here : Option Branch) → SpellsItem text one mid →
    SpellsHere mid here end → SpellsBranch text (with_front one here) end
spells_here one text mid end None first same = subst (λ (rest : List ℕ). SpellsItem text one rest) (sym same) first
spells_here one text mid end (Some branch) first others = (mid, first, others)

spells_front : (one : Item) (text mid : List ℕ) (tail : Tail) → SpellsItem text one mid → SpellsTail mid tail →
    SpellsTail text (fronted one tail)
spells_front one text mid (stop here others) first (end, branch, more) =
    (end, spells_here one text mid end here first branch, more)
spells_front one text mid (shut here others bound tail) first (end, last, outside, branch, more, takes, behind) =
    (end, last, outside, spells_here one text mid end here first branch, more, takes, behind)

sound_here : (one : Item) (around : List ℕ) (n : ℕ) (here : Option Branch) → SoundItem around n one →
    SoundHere around (groups_item n one) here → SoundBranch around n (with_front one here)
sound_here one around n None first others = first
sound_here one around n (Some branch) first others = (first, others)

groups_front : (one : Item) (n : ℕ) (here : Option Branch) →
    groups_branch n (with_front one here) ≡ groups_here (groups_item n one) here
groups_front one n None = refl
groups_front one n (Some branch) = refl

sound_front : (one : Item) (around : List ℕ) (n : ℕ) (tail : Tail) → SoundItem around n one →
    SoundTail around (groups_item n one) tail → SoundTail around n (fronted one tail)
sound_front one [] n tail first others = others
sound_front one (k ∷ []) n (stop None others) first more = (first, more.1)
sound_front one (k ∷ []) n (stop (Some branch) others) first more = ((first, more.0), more.1)
sound_front one (k ∷ []) n (shut here others bound tail) first more = more
sound_front one (k ∷ l ∷ around) n (stop here others) first more = more
sound_front one (k ∷ l ∷ around) n (shut None others bound tail) first more = (first, more.1, more.2)
sound_front one (k ∷ l ∷ around) n (shut (Some branch) others bound tail) first more =
    ((first, more.0), more.1, more.2)

rest_front : (fold : Bool) (one : Item) (n : ℕ) (tail : Tail) →
    in_branch (parts_item fold n one) (rest_tail fold (groups_item n one) tail) ≡ rest_tail fold n (fronted one tail)
rest_front fold one n (stop None others) = refl
rest_front fold one n (stop (Some branch) others) = refl
rest_front fold one n (shut None others bound tail) = refl
rest_front fold one n (shut (Some branch) others bound tail) = refl

told_front : (fold : Bool) (one : Item) (around : List ℕ) (n : ℕ) (last : Last) (text mid : List ℕ) (says : Rest) →
    SpellsItem text one mid → SoundItem around n one → Told fold around (groups_item n one) Part mid says →
    Told fold around n last text (in_branch (parts_item fold n one) says)
told_front fold one around n last text mid says spells sound told = record {
  tail = fronted one told.tail;
  spells = spells_front one text mid told.tail spells told.spells;
  sound = sound_front one around n told.tail sound told.sound;
  fine = fine_front last one told.tail;
  is = ap (in_branch (parts_item fold n one)) told.is ∙ rest_front fold one n told.tail;
}

-- a `|` before a tail

abbrev with_bar : Branch → Option Alts → Alts
with_bar branch None = alone branch
with_bar branch (Some alts) = or branch alts

spells_others : (text mid end : List ℕ) (branch : Branch) (others : Option Alts) → SpellsBranch text branch mid →
    SpellsOthers mid others end → SpellsAlts text (with_bar branch others) end
spells_others text mid end branch None first same =
    subst (λ (rest : List ℕ). SpellsBranch text branch rest) (sym same) first
spells_others text mid end branch (Some alts) first (behind, takes, more) = (mid, behind, first, takes, more)

fine_bar : (last : Last) (alts : Alts) → cond (after_part last) None (Some EmptyAlternative) ≡ None →
    Fine last None (Some alts)
fine_bar Part alts is = tt
fine_bar Bar alts is = cc
fine_bar Nothing alts is = cc

bar_branches : (fold : Bool) (n : ℕ) (branch : Branch) (others : Option Alts) →
    (parts_branch fold n branch [] ∷ branches_of fold (groups_branch n branch) others)
    ≡ (first_branch fold n (with_bar branch others) ∷ other_branches fold n (with_bar branch others))
bar_branches fold n branch None = refl
bar_branches fold n branch (Some alts) = refl

sound_stop : (around : List ℕ) (n : ℕ) (branch : Branch) (others : Option Alts) →
    SoundTail around n (stop (Some branch) others) → SoundTail around n (stop None (Some (with_bar branch others)))
sound_stop [] n branch others sound = sound
sound_stop (k ∷ []) n branch None sound = (tt, sound.0)
sound_stop (k ∷ []) n branch (Some alts) sound = (tt, (sound.0, sound.1))
sound_stop (k ∷ l ∷ around) n branch others sound = sound

sound_shut : (around : List ℕ) (n : ℕ) (branch : Branch) (others : Option Alts) (bound : Option Bound) (tail : Tail) →
    SoundTail around n (shut (Some branch) others bound tail) →
    SoundTail around n (shut None (Some (with_bar branch others)) bound tail)
sound_shut [] n branch others bound tail sound = sound
sound_shut (k ∷ []) n branch others bound tail sound = sound
sound_shut (k ∷ l ∷ around) n branch None bound tail sound = (tt, sound.0, sound.2)
sound_shut (k ∷ l ∷ around) n branch (Some alts) bound tail sound = (tt, (sound.0, sound.1), sound.2)

shut_is : (fold : Bool) (n : ℕ) (branch : Branch) (others : Option Alts) (bound : Option Bound) (tail : Tail) →
    behind_bar (rest_tail fold n (shut (Some branch) others bound tail))
    ≡ rest_tail fold n (shut None (Some (with_bar branch others)) bound tail)
shut_is fold n branch None bound tail = refl
shut_is fold n branch (Some alts) bound tail = refl

told_bar : (fold : Bool) (around : List ℕ) (n : ℕ) (last : Last) (text mid : List ℕ) (tail : Tail) →
    Takes text bar mid → cond (after_part last) None (Some EmptyAlternative) ≡ None →
    SpellsTail mid tail → SoundTail around n tail → FineTail Bar tail →
    Told fold around n last text (behind_bar (rest_tail fold n tail))
told_bar fold around n last text mid (stop None others) takes ok spells sound fine = absurd fine
told_bar fold around n last text mid (shut None others bound tail) takes ok spells sound fine = absurd fine
told_bar fold around n last text mid (stop (Some branch) others) takes ok (end, first, more) sound fine = record {
  tail = stop None (Some (with_bar branch others));
  spells = (text, refl, (mid, takes, spells_others mid end [] branch others first more));
  sound = sound_stop around n branch others sound;
  fine = fine_bar last (with_bar branch others) ok;
  is = ap (ends []) (bar_branches fold n branch others);
}
told_bar fold around n last text mid (shut (Some branch) others bound tail) takes ok
    (end, close, outside, first, more, shuts, behind) sound fine = record {
      tail = shut None (Some (with_bar branch others)) bound tail;
      spells = (
        text,
        close,
        outside,
        refl,
        (mid, takes, spells_others mid end close branch others first more),
        shuts,
        behind,
      );
      sound = sound_shut around n branch others bound tail sound;
      fine = fine_bar last (with_bar branch others) ok;
      is = shut_is fold n branch others bound tail;
    }

-- a `)` before a tail

fine_end : (last : Last) → after_bar last ≡ false → Fine last None None
fine_end Part free = tt
fine_end Bar free = cc
fine_end Nothing free = tt

told_close : (fold : Bool) (k l : ℕ) (around : List ℕ) (n : ℕ) (last : Last) (text mid : List ℕ)
    (bound : Option Bound) (says : Rest) →
    Takes text (close_group bound) mid → after_bar last ≡ false → Told fold (l ∷ around) n Part mid says →
    Told fold (k ∷ l ∷ around) n last text (closes [] [] bound says)
told_close fold k l around n last text mid bound says takes free told = record {
  tail = shut None None bound told.tail;
  spells = (text, text, mid, refl, refl, takes, told.spells);
  sound = (tt, tt, told.sound);
  fine = fine_end last free;
  is = ap (closes [] [] bound) told.is;
}

-- a `(` before a tail

fine_part : (tail : Tail) → FineTail Part tail
fine_part (stop here others) = tt
fine_part (shut here others bound tail) = tt

pub told_open : (fold : Bool) (k : ℕ) (around : List ℕ) (n : ℕ) (last : Last) (text mid : List ℕ) (tail : Tail) →
    Takes text open_group mid → length (k ∷ around) ≤ 250 →
    SpellsTail mid tail → SoundTail ((n + 1) ∷ k ∷ around) (n + 1) tail → FineTail Nothing tail →
    Told fold (k ∷ around) n last text (grouped (n + 1) (rest_tail fold (n + 1) tail))
told_open fold k around n last text mid (stop here others) takes fits spells sound fine = absurd sound
told_open fold k around n last text mid (shut None (Some alts) bound tail) takes fits spells sound fine = absurd fine
told_open fold k around n last text mid (shut None None bound tail) takes fits
    (end, close, outside, same, alike, shuts, behind) sound fine =
    let empty : Takes mid (close_group bound) outside =
    subst (λ (at : List ℕ). Takes at (close_group bound) outside) (alike ∙ same) shuts in
    told_front fold (empty_group bound) (k ∷ around) n last text outside (rest_tail fold (n + 1) tail)
    (mid, takes, empty) fits
    (record { tail = tail; spells = behind; sound = sound.2; fine = fine_part tail; is = refl })
told_open fold k around n last text mid (shut (Some branch) None bound tail) takes fits
    (end, close, outside, first, more, shuts, behind) sound fine =
    told_front fold (group_of (alone branch) bound) (k ∷ around) n last text outside
    (rest_tail fold (groups_branch (n + 1) branch) tail)
    (mid, close, takes, spells_others mid end close branch None first more, shuts) (fits, sound.0)
    (record { tail = tail; spells = behind; sound = sound.2; fine = fine_part tail; is = refl })
told_open fold k around n last text mid (shut (Some branch) (Some alts) bound tail) takes fits
    (end, close, outside, first, more, shuts, behind) sound fine =
    told_front fold (group_of (or branch alts) bound) (k ∷ around) n last text outside
    (rest_tail fold (groups_alts (groups_branch (n + 1) branch) alts) tail)
    (mid, close, takes, spells_others mid end close branch (Some alts) first more, shuts) (fits, (sound.0, sound.1))
    (record { tail = tail; spells = behind; sound = sound.2; fine = fine_part tail; is = refl })

-- any token before a tail

let_through : (v : Bool) (kind : EreKind) → cond v None (Some kind) ≡ None → v ≡ true
let_through true kind is = refl
let_through false kind is = cc

stands : (place : Place) (number : ℕ) → cond (is_closed place number) None (Some BadReference) ≡ None →
    (nat_le number place.groups && not (list_any (λ m. m == number) (numbers place))) ≡ true
stands place number is =
    ap (λ v. nat_le number place.groups && not v) (open_number place number)
    ∙ let_through (is_closed place number) BadReference is

told_closed : (fold : Bool) (at n : ℕ) (inner : Open) (outer : List Open) (last : Last) (text mid : List ℕ)
    (bound : Option Bound) (says : Rest) → Takes text (close_group bound) mid →
    refusal (record { groups = n; inner = inner; outer = outer; last = last }) (close_group bound) ≡ None →
    ToldAt fold (behind (record { groups = n; inner = inner; outer = outer; last = last }) at
    (close_group bound)) mid says →
    ToldAt fold (record { groups = n; inner = inner; outer = outer; last = last }) text (closes [] [] bound says)
told_closed fold at n inner [] last text mid bound says takes ok told = cc
told_closed fold at n inner (level ∷ outer) last text mid bound says takes ok told =
    let some : nat_lt 0 (length (level ∷ outer)) ≡ true = grind (arith, nat_tests) in
    let here : cond (after_bar last) (Some EmptyAlternative) None ≡ None = rw some at ok in
    told_close fold inner.number level.number (map (λ level. level.number) outer) n last text mid bound says takes
    (free (after_bar last) here) told
  where
    free : (v : Bool) → cond v (Some EmptyAlternative) None ≡ None → v ≡ false
    free true is = cc
    free false is = refl

told_token : (fold : Bool) (place : Place) (at : ℕ) (t : Token) (text mid : List ℕ) (says : Rest) → Takes text t mid →
    refusal place t ≡ None → ToldAt fold (behind place at t) mid says →
    ToldAt fold place text (from_token fold (place.groups + 1) t says)
told_token fold place at (item (byte b) bound) text mid says takes ok told =
    told_front fold (simple (item (byte b) bound))
    (numbers place) place.groups place.last text mid says takes refl told
told_token fold place at (item (one_of negated bytes) bound) text mid says takes ok told =
    told_front fold (simple (item (one_of negated bytes) bound))
    (numbers place) place.groups place.last text mid says takes refl told
told_token fold place at (item (same_as number) bound) text mid says takes ok told =
    told_front fold (simple (item (same_as number) bound)) (numbers place) place.groups place.last text mid says takes
    (stands place number ok) told
told_token fold place at tokens.line_start text mid says takes ok told =
    told_front fold (simple tokens.line_start) (numbers place) place.groups place.last text mid says takes refl told
told_token fold place at tokens.line_end text mid says takes ok told =
    told_front fold (simple tokens.line_end) (numbers place) place.groups place.last text mid says takes refl told
told_token fold place at bar text mid says takes ok told =
    subst (λ (r : Rest). ToldAt fold place text (behind_bar r)) (sym told.is)
    (told_bar fold (numbers place) place.groups place.last text mid told.tail takes ok told.spells told.sound told.fine)
told_token fold place at open_group text mid says takes ok told =
    let long = length-map place.outer (λ (level : Open). level.number) in
    let shallow : nat_lt (length place.outer) 250 ≡ true =
    let_through (nat_lt (length place.outer) 250) TooDeep ok in
    let fits : length (numbers place) ≤ 250 = grind (arith, nat_tests) in
    subst (λ (r : Rest). ToldAt fold place text (grouped (place.groups + 1) r)) (sym told.is)
    (told_open fold place.inner.number (map (λ level. level.number) place.outer) place.groups place.last text mid
    told.tail takes fits told.spells told.sound told.fine)
told_token fold place at (close_group bound) text mid says takes ok told =
    told_closed fold at place.groups place.inner place.outer place.last text mid bound says takes ok told

-- the end

told_end : (fold : Bool) (at n : ℕ) (inner : Open) (outer : List Open) (last : Last) (says : Rest) →
    ended (refusal_at_end (record { groups = n; inner = inner; outer = outer; last = last }) at) ≡ Ok says →
    ToldAt fold (record { groups = n; inner = inner; outer = outer; last = last }) [] says
told_end fold at n inner (level ∷ outer) last says is =
    let some : nat_lt 0 (length (level ∷ outer)) ≡ true = grind (arith, nat_tests) in
    let refused = rw some at is in
    cc
told_end fold at n inner [] Bar says is = cc
told_end fold at n inner [] Part says is =
    record { tail = stop None None; spells = ([], refl, refl); sound = (tt, tt); fine = tt; is = cc }
told_end fold at n inner [] Nothing says is =
    record { tail = stop None None; spells = ([], refl, refl); sound = (tt, tt); fine = tt; is = cc }

-- what was read

and_then_ok : {A B : Type 0} (at : ℕ) (found : Result A EreFault) (go : A → Result B EreFault) (b : B) →
    and_then at found go ≡ Ok b → (a : A) × (found ≡ Ok a) × (go a ≡ Ok b)
and_then_ok at (Ok a) go b is = (a, refl, is)
and_then_ok at (Err refused) go b is = cc

unless_ok : {A : Type 0} (at : ℕ) (refused : Option EreKind) (read : Result A EreFault) (a : A) →
    unless at refused read ≡ Ok a → (refused ≡ None) × (read ≡ Ok a)
unless_ok at None read a is = (refl, is)
unless_ok at (Some kind) read a is = cc

map_ok_ok : {A B : Type 0} (change : A → B) (read : Result A EreFault) (b : B) → map_ok change read ≡ Ok b →
    (a : A) × (read ≡ Ok a) × (change a ≡ b)
map_ok_ok change (Ok a) b is = (a, refl, cc)
map_ok_ok change (Err refused) b is = cc

-- each text that is read from a place on is a tail
told_reading : (text : List ℕ) (fold : Bool) (place : Place) (at skip : ℕ) (says : Rest) → skip ≤ length text →
    reading_from fold place at skip text ≡ Ok says → ToldAt fold place (drop skip text) says
unfolding reading_from
told_reading [] fold place at zero says fits is =
    told_end fold at place.groups place.inner place.outer place.last says is
told_reading [] fold place at (suc skip) says fits is = absurd (omega arith)
told_reading (b ∷ rest) fold place at (suc skip) says fits is =
    told_reading rest fold place (suc at) skip says (omega arith) is
told_reading (b ∷ rest) fold place at zero says fits is =
    let text : List ℕ = b ∷ rest in
    let found = and_then_ok at (token text) _ says is in
    let t : Token = found.0.0 in
    let let_in = unless_ok at (refusal place t) _ says found.2 in
    let read = map_ok_ok (from_token fold (place.groups + 1) t)
    (reading_from fold (behind place at t) (suc at) (found.0.1 - 1) rest) says let_in.1 in
    let within = subst (λ (r : Result (Token × ℕ) EreFault). IfOk r (λ f. (0 < f.1) × (f.1 ≤ length text))) found.1
    (token_within text (omega arith)) in
    let low : 0 < found.0.1 = within.0 in
    let high : found.0.1 ≤ length text = within.1 in
    let more : found.0.1 ≡ suc (found.0.1 - 1) = omega arith in
    let behind_it : drop (found.0.1 - 1) rest ≡ drop found.0.1 text = ap (λ n. drop n text) (sym more) in
    subst (λ (r : Rest). ToldAt fold place text r) read.2
    (told_token fold place at t text (drop (found.0.1 - 1) rest) read.0
    (found.0.1, found.1, low, high, behind_it) let_in.0
    (told_reading rest fold (behind place at t) (suc at) (found.0.1 - 1) read.0 (omega arith) read.1))

-- a whole text

told_whole : (fold : Bool) (text : List ℕ) (tail : Tail) → SpellsTail text tail → SoundTail (0 ∷ []) 0 tail →
    FineTail Nothing tail → IsEre fold text (whole (rest_tail fold 0 tail))
told_whole fold text (stop None None) (mid, same, none) sound fine = inl (sym (none ∙ same), refl)
told_whole fold text (stop None (Some alts)) spells sound fine = absurd fine
told_whole fold text (stop (Some branch) None) (mid, first, none) sound fine =
    inr (alone branch, spells_others text mid [] branch None first none, sound.0, refl)
told_whole fold text (stop (Some branch) (Some alts)) (mid, first, more) sound fine =
    inr (or branch alts, spells_others text mid [] branch (Some alts) first more, (sound.0, sound.1), refl)
told_whole fold text (shut here others bound tail) spells sound fine = absurd sound

-- a text that is read is in the grammar
pub read_grammar : (fold : Bool) (text : List ℕ) (tree : Tree) → tree_read fold text ≡ Ok tree → IsEre fold text tree
unfolding tree_read
read_grammar fold text tree is =
    let read = map_ok_ok whole (reading_from fold beginning 0 0 text) tree is in
    let told = told_reading text fold beginning 0 0 read.0 (omega arith) read.1 in
    subst (λ (t : Tree). IsEre fold text t) (ap whole (sym told.is) ∙ read.2)
    (told_whole fold text told.tail told.spells told.sound told.fine)
