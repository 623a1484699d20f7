-- Shown: words are peeled a `not` at a time, and a command is known by its index among all words.
-- Idea: done, and then what is left is peeled, is the whole peeled; behind so many words it is the same command of the words that are left.
-- The hard one is `peel_at`, which takes one `not` off.
use Rattle.std.proofs.Common.{◌≡◌, ℕ, zero, suc, ◌+◌, ◌<◌, ◌&&◌, Bool, true, if◌then◌else◌, codes, List, [], ◌∷◌, ◌++◌, map, length, drop, get_or, Option, Some, None, refl, sym, ap, subst, ◌∙◌, append_assoc}
use Rattle.std.proofs.lemmas.List.{append-nil, drop-drop, drop_more, get_or-drop, map-append}
use Rattle.std.proofs.lemmas.List.Elements.{All-nil, All-push}
use Rattle.std.specs.List.{All}
use Rattle.std.specs.Str.{bytes_eq}
use Rattle.not_count.specs.Command.{command_in}
use Rattle.not_count.specs.declared.command.NotCommand.{NotCommand}
use Rattle.inner_answers.specs.Peeled.{Level, Peeled, accepted, beneath, command_below, level_in, moved, peel, placed}
use Rattle.inner_answers.specs.Peeling.{IsPeeling}

-- ---- one `not`

-- words behind so many
pub peel_skips : (short : Bool) (skip : ℕ) (words : List (List ℕ)) → peel short skip words ≡ peel short 0 (drop skip words)
unfolding peel
peel_skips short zero words = refl
peel_skips short (suc skip) [] = refl
peel_skips short (suc skip) (name ∷ words) = peel_skips short skip words

-- what is peeled below the first word
abbrev peel_by : Bool → List ℕ → List (List ℕ) → Option NotCommand → Peeled
peel_by short name words (Some command) = beneath (level_in words command) (peel short command.first words)
peel_by short name words None = record { levels = []; core = name ∷ words }

peel_first : (short : Bool) (name : List ℕ) (words : List (List ℕ))
    → peel short 0 (name ∷ words) ≡ peel_by short name words (command_below short name words)
unfolding peel
peel_first short name words = refl

-- a word that isn't taken off
pub peel_ends : (short : Bool) (name : List ℕ) (words : List (List ℕ)) → command_below short name words ≡ None
    → peel short 0 (name ∷ words) ≡ record { levels = []; core = name ∷ words }
peel_ends short name words none = peel_first short name words ∙ ap (peel_by short name words) none

-- a `not` that is
pub peel_more : (short : Bool) (name : List ℕ) (words : List (List ℕ)) (command : NotCommand)
    → command_below short name words ≡ Some command
    → peel short 0 (name ∷ words) ≡ beneath (level_in words command) (peel short 0 (drop command.first words))
peel_more short name words command some =
    peel_first short name words ∙ ap (peel_by short name words) some
    ∙ ap (beneath (level_in words command)) (peel_skips short command.first words)

-- a `not` with a short input has the command that its words ask for
pub below_is : (short : Bool) (name : List ℕ) (words : List (List ℕ)) (found : Option NotCommand) → short ≡ true
    → bytes_eq name (codes "not") ≡ true → found ≡ accepted (command_in words) → found ≡ command_below short name words
below_is short name words found is_short is_not is =
    let asked = accepted (command_in words) in
    is ∙ sym (ap (λ b. if b && bytes_eq name (codes "not") then asked else None) is_short
    ∙ ap (λ b. if b then asked else None) is_not)

-- ---- indices among all words

level_moved : (words : List (List ℕ)) (at : ℕ) (command : NotCommand)
    → level_in (drop at words) command ≡ level_in words (moved at command)
level_moved words at command =
    ap (λ (name : List ℕ). record { name = name; crash = command.crash }) (get_or-drop at words command.first [])

-- a command that was placed is one that is moved
from_placed : (at : ℕ) (found : Option NotCommand) (command : NotCommand) → placed at found ≡ Some command
    → (below : NotCommand) × (found ≡ Some below) × (moved at below ≡ command)
from_placed at (Some below) command is = (below, refl, cc)
from_placed at None command is = cc

pub none_placed : (at : ℕ) (found : Option NotCommand) → placed at found ≡ None → found ≡ None
none_placed at (Some below) is = cc
none_placed at None is = refl

-- the command below the word of an index
abbrev found_at : Bool → List (List ℕ) → ℕ → Option NotCommand
found_at short words at = command_below short (get_or words at []) (drop (at + 1) words)

-- one `not` is taken off
peel_at : (short : Bool) (words : List (List ℕ)) (at : ℕ) (command : NotCommand) → at < length words
    → placed (at + 1) (found_at short words at) ≡ Some command
    → peel short 0 (drop at words) ≡ beneath (level_in words command) (peel short 0 (drop command.first words))
peel_at short words at command within is =
    let found = from_placed (at + 1) (found_at short words at) command is in
    let below = found.0 in
    let rest = drop (at + 1) words in
    let step : peel short 0 (drop at words)
    ≡ beneath (level_in words (moved (at + 1) below)) (peel short 0 (drop (at + 1 + below.first) words)) =
    ap (peel short 0) (drop_more words at [] within) ∙ peel_more short (get_or words at []) rest below found.1
    ∙ ap (λ (level : Level). beneath level (peel short 0 (drop below.first rest))) (level_moved words (at + 1) below)
    ∙ ap (λ (ws : List (List ℕ)). beneath (level_in words (moved (at + 1) below)) (peel short 0 ws))
    (drop-drop below.first (at + 1) words) in
    subst (λ (one : NotCommand). peel short 0 (drop at words) ≡ beneath (level_in words one) (peel short 0 (drop one.first words)))
    found.2 step

-- ---- words that are peeled so far

pub record Front (short : Bool) (words : List (List ℕ)) (done : List NotCommand) (at : ℕ) : Type 0 where
  pub levels : (peel short 0 words).levels ≡ map (level_in words) done ++ (peel short 0 (drop at words)).levels
  pub core : (peel short 0 words).core ≡ (peel short 0 (drop at words)).core
  pub within : at < length words
  pub programs : All (λ command. command.first < length words) done

pub front_begins : (short : Bool) (words : List (List ℕ)) → 0 < length words → Front short words [] 0
front_begins short words some = record { levels = refl; core = refl; within = some; programs = All-nil _ }

pub front_grows : (short : Bool) (words : List (List ℕ)) (levels : List NotCommand) (at : ℕ) (command : NotCommand)
    → Front short words levels at → placed (at + 1) (found_at short words at) ≡ Some command → command.first < length words
    → Front short words (levels ++ command ∷ []) command.first
front_grows short words levels at command front is within =
    let step = peel_at short words at command front.within is in
    let rest = (peel short 0 (drop command.first words)).levels in
    record {
      levels = front.levels ∙ ap (λ (peeled : Peeled). map (level_in words) levels ++ peeled.levels) step
          ∙ sym (append_assoc (map (level_in words) levels) (level_in words command ∷ []) rest)
          ∙ ap (λ (done : List Level). done ++ rest) (sym (map-append (level_in words) levels (command ∷ [])));
      core = front.core ∙ ap (λ (peeled : Peeled). peeled.core) step;
      within = within;
      programs = All-push (λ (one : NotCommand). one.first < length words) levels command front.programs within;
    }

pub front_ends : (short : Bool) (words : List (List ℕ)) (levels : List NotCommand) (at : ℕ) → Front short words levels at
    → placed (at + 1) (found_at short words at) ≡ None → IsPeeling short words (record { levels = levels; core = at })
front_ends short words levels at front is =
    let none = none_placed (at + 1) (found_at short words at) is in
    let whole : drop at words ≡ get_or words at [] ∷ drop (at + 1) words = drop_more words at [] front.within in
    let ends : peel short 0 (drop at words) ≡ record { levels = []; core = drop at words } =
    ap (peel short 0) whole ∙ peel_ends short (get_or words at []) (drop (at + 1) words) none
    ∙ ap (λ (ws : List (List ℕ)). record { levels = []; core = ws }) (sym whole) in
    record {
      levels = sym (front.levels ∙ ap (λ (peeled : Peeled). map (level_in words) levels ++ peeled.levels) ends
          ∙ append-nil (map (level_in words) levels));
      core = sym (front.core ∙ ap (λ (peeled : Peeled). peeled.core) ends);
      within = front.within;
      programs = front.programs;
    }
