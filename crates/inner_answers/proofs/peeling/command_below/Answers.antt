use Rattle.std.proofs.Common.{◌≡◌, ◌+◌, ◌∙◌, ◌<◌, [], Bool, ℕ, List, Option, true, ap, sym, drop, get_or, length, codes}
use Rattle.std.proofs.lemmas.List.{drop-map, get_or-map, take_rest}
use Rattle.std.specs.Prelude.{String, slice_range, string_bytes}
use Rattle.std.specs.Str.{bytes_eq}
use Rattle.std.specs.declared.alloc.Global.{Global}
use Rattle.opt_words.specs.Step.{texts}
use Rattle.not_count.specs.Command.{command_in}
use Rattle.not_count.specs.declared.command.NotCommand.{NotCommand}
use Rattle.inner_answers.specs.Peeled.{accepted, command_below, placed}
use Rattle.inner_answers.proofs.PeelLemmas.{below_is}
use Rattle.inner_answers.proofs.peeling.command_below.Goals as goal

-- what is found behind a `not` among texts
found_below : (words : List (String Global)) (at : ℕ) (one : String Global) (short : Bool) (found : Option NotCommand) → at < length words
    → one ≡ get_or words at one → short ≡ true → bytes_eq (string_bytes one) (codes "not") ≡ true
    → found ≡ accepted (command_in (texts (slice_range words (at + 1) (length words))))
    → placed (at + 1) found ≡ placed (at + 1) (command_below short (get_or (texts words) at []) (drop (at + 1) (texts words)))
found_below words at one short found within is is_short is_not from =
    let name : get_or (texts words) at [] ≡ string_bytes one =
    get_or-map string_bytes words at one [] within ∙ ap string_bytes (sym is) in
    let named : bytes_eq (get_or (texts words) at []) (codes "not") ≡ true = ap (λ word. bytes_eq word (codes "not")) name ∙ is_not in
    let rest = ap texts (take_rest words (at + 1)) ∙ sym (drop-map string_bytes (at + 1) words) in
    ap (placed (at + 1))
    (below_is short (get_or (texts words) at []) (drop (at + 1) (texts words)) found is_short named
    (from ∙ ap (λ all. accepted (command_in all)) rest))

pub returns-in-Some-clause-value : goal.returns-in-Some-clause-value
returns-in-Some-clause-value c =
    found_below c.args.words.now c.args.at c.index-words-at.result c.args.short _ c.requires c.index-words-at.is c.if-not-short.false
    (ap (λ word. bytes_eq word (codes "not")) (sym c.as_bytes.ensures.value) ∙ sym c.is_not.ensures ∙ c.if-not-is_not.false)
    c.in-Some.ensures.value

pub returns-in-None-clause-value : goal.returns-in-None-clause-value
returns-in-None-clause-value c =
    found_below c.args.words.now c.args.at c.index-words-at.result c.args.short _ c.requires c.index-words-at.is c.if-not-short.false
    (ap (λ word. bytes_eq word (codes "not")) (sym c.as_bytes.ensures.value) ∙ sym c.is_not.ensures ∙ c.if-not-is_not.false)
    c.in-None.ensures.value
