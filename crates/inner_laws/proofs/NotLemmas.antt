-- Shown: a `not` that accepts its words and the input has the inverse of the reply to its command. Idea: words that are texts are peeled,
-- whether they are answered inside or not, since those of no tool peel to themselves; one level more is one inverse more. The hard ones
-- are texts_to and texts_from.
use Rattle.std.proofs.Common.{◌≡◌, ℕ, zero, suc, Bool, true, false, true≢false, ◌&&◌, ◌||◌, if◌then◌else◌, is_some, List, [], ◌∷◌, drop, codes, Option, Some, None, Ok, refl, sym, ap, subst, ◌∙◌}
use Rattle.std.proofs.lemmas.Bool.{and_parts}
use Rattle.std.specs.List.{list_all, list_any}
use Rattle.std.specs.Str.{bytes_eq, is_utf8}
use Rattle.not_count.specs.Command.{command_in}
use Rattle.not_count.specs.declared.command.NotCommand.{NotCommand}
use Rattle.tt_outside.specs.declared.request.Pair.{Pair}
use Rattle.tt_outside.specs.declared.request.Reply.{Reply}
use Rattle.tt_outside.specs.declared.request.Reply.TheVariants as kinds
use Rattle.tt_outside.specs.declared.request.Request.{Request}
use Rattle.tt_outside.specs.declared.request.Request.TheVariants.{Spawn}
use Rattle.inner_answers.specs.Below.{IsToolReply, core_asks, tool_asks}
use Rattle.inner_answers.specs.Inside.{IsPeeledReply, IsReplyOver, IsReplyUnless, asked_inside, asked_where, is_broken, is_inside}
use Rattle.inner_answers.specs.Peeled.{Level, Peeled, accepted, beneath, command_below, is_short, level_in, peel, tool_in}
use Rattle.inner_answers.specs.Told.{inverse_all, inverse_reply}
use Rattle.inner_answers.specs.declared.tool.Tool.{Tool}
use Rattle.inner_answers.specs.declared.tool.Tool.TheVariants.{FileCheck, Count, Not}
use Rattle.inner_answers.proofs.PeelLemmas.{peel_ends, peel_more}
use Rattle.inner_laws.specs.Replies.{NotInverts}

-- a name of no tool isn't that of `not`
no_not : (checks counts nots : Bool)
    → (if checks then Some FileCheck else if counts then Some Count else if nots then Some Not else None) ≡ None → nots ≡ false
no_not false false false none = refl
no_not false false true none = cc
no_not false true nots none = cc
no_not true counts nots none = cc

not_below : (short named : Bool) (found : Option NotCommand) → named ≡ false → (if short && named then found else None) ≡ None
not_below true named found none = ap (λ b. if b then found else None) none
not_below false named found none = refl

-- words of no tool are peeled to themselves
plain_peels : (short : Bool) (words : List (List ℕ)) → tool_in words ≡ None
    → peel short 0 words ≡ record { levels = []; core = words }
unfolding peel
plain_peels short [] none = refl
plain_peels short (name ∷ words) none =
    let named = bytes_eq name (codes "not") in
    let other = no_not (bytes_eq name (codes "FileCheck") || bytes_eq name (codes "filecheck")) (bytes_eq name (codes "count"))
    named none in
    peel_ends short name words (not_below short named (accepted (command_in words)) other)

-- texts that aren't answered inside are of no tool
of_none : (found : Option Tool) (text : Bool) → text ≡ true → (is_some found && text) ≡ false → found ≡ None
of_none None text is outside = refl
of_none (Some tool) text is outside = absurd (true≢false (sym is ∙ outside))

-- words that are texts are peeled, whether they are answered inside or not
module _ (words : List (List ℕ)) (dir : List ℕ) (env : List Pair) (input : List ℕ) (limit : ℕ)
    (are_texts : list_all is_utf8 words ≡ true) where
  abbrev request : Request
  request = Spawn words dir env input limit

  abbrev peeled : Peeled
  peeled = peel (is_short input) 0 words

  abbrev plain : Peeled
  plain = record { levels = []; core = words }

  plain_where : is_inside request ≡ false → (tool_in words ≡ None) × (peeled ≡ plain)
  plain_where outside =
      let none = of_none (tool_in words) (list_all is_utf8 words) are_texts outside in
      (none, plain_peels (is_short input) words none)

  texts_ask : (inside : Bool) → is_inside request ≡ inside
      → asked_where inside request ≡ core_asks peeled.core dir env input limit
  texts_ask true is = refl
  texts_ask false is =
      let outside = plain_where is in
      sym (ap (λ (p : Peeled). core_asks p.core dir env input limit) outside.1
      ∙ ap (λ (t : Option Tool). tool_asks t words dir env input limit) outside.0)

  texts_to : (inside : Bool) (replies : List Reply) (reply : Reply) → is_inside request ≡ inside
      → IsReplyOver inside request replies reply → IsPeeledReply peeled input limit replies reply
  texts_to true replies reply is told = told
  texts_to false replies reply is told =
      let outside = plain_where is in
      subst (λ (p : Peeled). IsPeeledReply p input limit replies reply) (sym outside.1) (
        reply,
        subst (λ (t : Option Tool). IsToolReply t words input limit replies reply) (sym outside.0) told,
        refl,
      )

  texts_from : (inside : Bool) (replies : List Reply) (reply : Reply) → is_inside request ≡ inside
      → IsPeeledReply peeled input limit replies reply → IsReplyOver inside request replies reply
  texts_from true replies reply is told = told
  texts_from false replies reply is told =
      let outside = plain_where is in
      let from : IsPeeledReply plain input limit replies reply =
      subst (λ (p : Peeled). IsPeeledReply p input limit replies reply) outside.1 told in
      from.2 ∙ subst (λ (t : Option Tool). IsToolReply t words input limit replies from.0) outside.0 from.1

later_texts : (words : List (List ℕ)) (skip : ℕ) → list_all is_utf8 words ≡ true → list_all is_utf8 (drop skip words) ≡ true
later_texts words zero texts = texts
later_texts [] (suc skip) texts = texts
later_texts (word ∷ words) (suc skip) texts =
    later_texts words skip (and_parts (is_utf8 word) (list_all is_utf8 words) texts).1

module _ (words : List (List ℕ)) (dir : List ℕ) (env : List Pair) (input : List ℕ) (limit : ℕ) (command : NotCommand)
    (inside : is_inside (Spawn (codes "not" ∷ words) dir env input limit) ≡ true) (short : is_short input ≡ true)
    (accepts : command_in words ≡ Ok command) where
  abbrev outer : Request
  outer = Spawn (codes "not" ∷ words) dir env input limit

  abbrev rest : List (List ℕ)
  rest = drop command.first words

  abbrev inner : Request
  inner = Spawn rest dir env input limit

  abbrev level : Level
  level = level_in words command

  abbrev below : Peeled
  below = peel (is_short input) 0 rest

  are_texts : list_all is_utf8 rest ≡ true
  are_texts =
      let all = and_parts (is_some (tool_in (codes "not" ∷ words))) (list_all is_utf8 (codes "not" ∷ words)) inside in
      later_texts words command.first (and_parts (is_utf8 (codes "not")) (list_all is_utf8 words) all.1).1

  taken : command_below (is_short input) (codes "not") words ≡ Some command
  taken =
      ap (λ b. if b && bytes_eq (codes "not") (codes "not") then accepted (command_in words) else None) short
      ∙ ap accepted accepts

  peels : peel (is_short input) 0 (codes "not" ∷ words) ≡ beneath level below
  peels = peel_more (is_short input) (codes "not") words command taken

  outer_asks : asked_inside outer ≡ asked_inside inner
  outer_asks =
      ap (λ b. asked_where b outer) inside
      ∙ ap (λ (p : Peeled). core_asks p.core dir env input limit) peels
      ∙ sym (texts_ask rest dir env input limit are_texts (is_inside inner) refl)

  abbrev Inverse : Bool → List Reply → Reply → Type 0
  Inverse broken replies reply =
      (one : Reply) × IsReplyUnless broken inner replies one × (reply ≡ inverse_reply limit level one)

  inverse_to : (broken : Bool) (replies : List Reply) (reply : Reply) → IsReplyUnless broken outer replies reply
      → Inverse broken replies reply
  inverse_to true replies reply told = (kinds.Broken, refl, told)
  inverse_to false replies reply told =
      let over : IsReplyOver true outer replies reply = subst (λ b. IsReplyOver b outer replies reply) inside told in
      let parts : IsPeeledReply (beneath level below) input limit replies reply =
      subst (λ (p : Peeled). IsPeeledReply p input limit replies reply) peels over in
      let one = inverse_all limit below.levels parts.0 in (
        one,
        texts_from rest dir env input limit are_texts (is_inside inner) replies one refl (parts.0, parts.1, refl),
        parts.2,
      )

  inverse_from : (broken : Bool) (replies : List Reply) (reply : Reply) → Inverse broken replies reply
      → IsReplyUnless broken outer replies reply
  inverse_from true replies reply (one, is, told) = told ∙ ap (inverse_reply limit level) is
  inverse_from false replies reply (one, is, told) =
      let parts = texts_to rest dir env input limit are_texts (is_inside inner) replies one refl is in
      let over : IsPeeledReply (beneath level below) input limit replies reply =
      (parts.0, parts.1, told ∙ ap (inverse_reply limit level) parts.2) in
      subst (λ b. IsReplyOver b outer replies reply) (sym inside)
      (subst (λ (p : Peeled). IsPeeledReply p input limit replies reply) (sym peels) over)

pub not_inverts : NotInverts
not_inverts words dir env input limit command inside short accepts = record {
  asked = outer_asks words dir env input limit command inside short accepts;
  reply = λ replies reply. (
    inverse_to words dir env input limit command inside short accepts (list_any is_broken replies) replies reply,
    inverse_from words dir env input limit command inside short accepts (list_any is_broken replies) replies reply,
  );
}
