use Rattle.std.proofs.Common.{◌≡◌, ◌<◌, ◌∙◌, [], ap, sym, get_or, length, arith}
use Rattle.std.proofs.lemmas.List.{get_or-map, length-map}
use Rattle.std.specs.Prelude.{codes, string_bytes}
use Rattle.opt_words.specs.Step.{texts}
use Rattle.tt_base.specs.Occurrence.{begins_with}
use Rattle.inner_answers.proofs.FrontLemmas.{front_commands}
use Rattle.inner_answers.proofs.peeling.front_len.Goals as goal

pub returns-then-not-starts_with-clause-same : goal.returns-then-not-starts_with-clause-same
returns-then-not-starts_with-clause-same c =
    let words = c.args.words.now in
    let at = c.loop-at.at in
    let one = c.index-words-at.result in
    let within : at < length (texts words) = omega (arith, c.loop-at-test.true, length-map words string_bytes) in
    let same : get_or (texts words) at [] ≡ c.as_bytes.result.now =
    get_or-map string_bytes words at one [] c.loop-at-test.true ∙ ap string_bytes (sym c.index-words-at.is)
    ∙ sym c.as_bytes.ensures.value in
    front_commands (texts words) at within
    (ap (λ word. begins_with word (codes "-")) same ∙ sym c.starts_with.ensures.value ∙ c.if-not-starts_with.true)
