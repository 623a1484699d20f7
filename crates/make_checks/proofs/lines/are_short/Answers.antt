use Rattle.std.proofs.Common.{◌+◌, ◌∙◌, List, ℕ, drop, ap, sym, arith, add-one}
use Rattle.std.specs.List.{position_from, slice_split}
use Rattle.std.proofs.lemmas.List.{take_rest}
use Rattle.file_laws.specs.Made.{is_too_long}
use Rattle.tt_base.specs.Place.{is_newline}
use Rattle.make_checks.proofs.ShortLemmas.{short_front, short_text}
use Rattle.make_checks.proofs.lines.are_short.Goals as goal

pub loop-rest-preserved : goal.loop-rest-preserved
loop-rest-preserved c none =
    let rest : List ℕ = c.loop-rest.rest.now in
    let at : ℕ = c.in-Some.at in
    c.loop-rest.invariant
    (short_front rest at c.in-Some.ensures.near c.in-Some.ensures.within c.in-Some.ensures.newline
    (λ number. ap (λ k. position_from is_too_long number (slice_split is_newline (drop k rest))) (sym (add-one at))
    ∙ ap (λ t. position_from is_too_long number (slice_split is_newline t)) (sym (take_rest rest (at + 1))) ∙ none number))

pub returns : goal.returns
returns c is = c.loop-rest.invariant (short_text c.loop-rest.rest.now (omega (arith, c.loop-rest-test.false)))
