use Rattle.std.proofs.Common.{Ok, Some, ap, sym, ◌∙◌}
use Rattle.pattern_instance.specs.Known.{known_of}
use Rattle.pattern_parse.specs.PieceView.{items_view}
use Rattle.pattern_scan.proofs.NamesLemmas.{answers_placed}
use Rattle.pattern_scan.proofs.SeekLemmas.{answers_within, plain_sought}
use Rattle.pattern_scan.proofs.StoredLemmas.{stored_is, stored_shown, stored_sought}
use Rattle.pattern_scan.proofs.seeking.seek.Goals as goal

pub returns-in-Some-clause-value : goal.returns-in-Some-clause-value
returns-in-Some-clause-value g c =
    c.plain_answer.ensures c.args.context.now.text.now
    ∙ plain_sought c.args.context.now.vars.now c.args.line c.args.pattern.now c.in-Some.needle.now c.args.context.now.text.now c.args.from
    c.find_text.result c.in-Some.ensures c.find_text.ensures

pub returns-in-Some-clause-within : goal.returns-in-Some-clause-within
returns-in-Some-clause-within g c =
    answers_within _ c.args.context.now.text.now c.args.from _ (Ok c.plain_answer.result) c.requires.inside (returns-in-Some-clause-value g c)

pub returns-in-Some-clause-named : goal.returns-in-Some-clause-named
returns-in-Some-clause-named g c = λ placed.
    answers_placed c.args.context.now.vars.now c.args.pattern.now.fold c.args.context.now.text.now c.args.from
    (known_of c.args.context.now.vars.now c.args.line c.args.pattern.now.fold) c.args.pattern.now.frame
    (items_view c.args.pattern.now.pieces) (Ok c.plain_answer.result) placed (returns-in-Some-clause-value g c)

pub returns-in-Some-2-clause-value : goal.returns-in-Some-2-clause-value
returns-in-Some-2-clause-value g c =
    c.plain_answer-in-Some-2.ensures c.args.context.now.text.now
    ∙ stored_sought c.args.context.now.vars.now c.args.line c.args.pattern.now c.as_slice.result.now c.args.context.now.text.now c.args.from
    c.find_text-in-Some-2.result
    (stored_is c.args.pattern.now c.args.context.now.vars.now c.args.line c.in_ok-needle.field-0 c.as_slice.result.now c.in_ok-needle.ensures
    (c.in-Some-2.is ∙ ap Some (sym c.as_slice.ensures)))
    c.find_text-in-Some-2.ensures

pub returns-in-Some-2-clause-within : goal.returns-in-Some-2-clause-within
returns-in-Some-2-clause-within g c =
    answers_within _ c.args.context.now.text.now c.args.from _ (Ok c.plain_answer-in-Some-2.result) c.requires.inside
    (returns-in-Some-2-clause-value g c)

pub returns-in-Some-2-clause-named : goal.returns-in-Some-2-clause-named
returns-in-Some-2-clause-named g c = λ placed.
    answers_placed c.args.context.now.vars.now c.args.pattern.now.fold c.args.context.now.text.now c.args.from
    (known_of c.args.context.now.vars.now c.args.line c.args.pattern.now.fold) c.args.pattern.now.frame
    (items_view c.args.pattern.now.pieces) (Ok c.plain_answer-in-Some-2.result) placed (returns-in-Some-2-clause-value g c)

pub returns-in-Some-2-clause-least : goal.returns-in-Some-2-clause-least
returns-in-Some-2-clause-least g c =
    stored_shown c.args.context.now.vars.now c.args.line c.args.pattern.now c.in-Some-2.needle c.args.context.now.text.now c.args.from _
    (stored_is c.args.pattern.now c.args.context.now.vars.now c.args.line c.in_ok-needle.field-0 c.in-Some-2.needle c.in_ok-needle.ensures
    c.in-Some-2.is)

pub returns-clause-within : goal.returns-clause-within
returns-clause-within g c =
    answers_within _ c.args.context.now.text.now c.args.from _ c.seek_once.result c.requires.inside c.seek_once.ensures.value

pub returns-clause-named : goal.returns-clause-named
returns-clause-named g c = λ placed.
    answers_placed c.args.context.now.vars.now c.args.pattern.now.fold c.args.context.now.text.now c.args.from
    (known_of c.args.context.now.vars.now c.args.line c.args.pattern.now.fold) c.args.pattern.now.frame
    (items_view c.args.pattern.now.pieces) c.seek_once.result placed c.seek_once.ensures.value
