use Rattle.std.proofs.Common.{[], ap, false, sym, ◌∙◌}
use Rattle.ere_tree.specs.View.{view}
use Rattle.pattern_hits.proofs.CapsLemmas.{hit_is_sound}
use Rattle.pattern_instance.specs.Instance.{made}
use Rattle.pattern_instance.specs.Views.{instance_view}
use Rattle.pattern_scan.proofs.SeekLemmas.{answers_within, built_shows, made_shown, made_sought}
use Rattle.pattern_scan.proofs.ready.Ready.seek.Goals as goal

pub answer_of-requires : goal.answer_of-requires
answer_of-requires g c =
    hit_is_sound c.args.text.now (view c.in-Made.ere) c.args.from c.in_ok-hit-in-Made.hit c.requires.inside c.in_ok-hit-in-Made.ensures.hit

pub returns-in_ok-hit-in-Made-clause-value : goal.returns-in_ok-hit-in-Made-clause-value
returns-in_ok-hit-in-Made-clause-value g c =
    made_sought c.args.self.now.fold c.args.text.now c.args.from _ (view c.in-Made.ere) c.as_slice-in-Made.result.now
    c.in_ok-hit-in-Made.hit c.answer_of.result
    (ap (made (view c.in-Made.ere)) c.as_slice-in-Made.ensures ∙ sym (ap instance_view c.in-Made.is)) c.in_ok-hit-in-Made.ensures.hit c.answer_of.ensures

pub returns-in_ok-hit-in-Made-clause-within : goal.returns-in_ok-hit-in-Made-clause-within
returns-in_ok-hit-in-Made-clause-within g c =
    answers_within c.args.self.now.fold c.args.text.now c.args.from _ c.answer_of.result c.requires.inside
    (made_sought c.args.self.now.fold c.args.text.now c.args.from _ (view c.in-Made.ere) c.as_slice-in-Made.result.now
    c.in_ok-hit-in-Made.hit c.answer_of.result
    (ap (made (view c.in-Made.ere)) c.as_slice-in-Made.ensures ∙ sym (ap instance_view c.in-Made.is)) c.in_ok-hit-in-Made.ensures.hit c.answer_of.ensures)

pub returns-in_ok-hit-in-Made-clause-least : goal.returns-in_ok-hit-in-Made-clause-least
returns-in_ok-hit-in-Made-clause-least g c =
    let is = sym (ap instance_view c.in-Made.is) in
    made_shown _ c.args.text.now c.args.from _ _ (view c.in-Made.ere) c.in-Made.gifts c.in_ok-hit-in-Made.hit
    c.answer_of.result is c.in_ok-hit-in-Made.ensures.hit
    (λ yes no_refs. c.in_ok-hit-in-Made.ensures.least
    (built_shows _ _ _ (view c.in-Made.ere) c.in-Made.gifts is c.requires.built yes) no_refs)

pub returns-then-is_empty-clause-within : goal.returns-then-is_empty-clause-within
returns-then-is_empty-clause-within g c =
    answers_within false c.args.text.now c.args.from (made (view c.in-Made.ere) []) c.seek_span.result c.requires.inside
    (c.seek_span.ensures.value false)
