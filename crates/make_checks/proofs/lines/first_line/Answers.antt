use Rattle.std.proofs.Common.{◌∷◌, ◌+◌, ap, sym, ◌∙◌, arith, take, drop, add-one}
use Rattle.std.specs.List.{slice_split}
use Rattle.std.proofs.lemmas.List.{take_rest}
use Rattle.tt_base.specs.Place.{is_newline}
use Rattle.make_checks.proofs.LineLemmas.{split_first, split_none}
use Rattle.make_checks.proofs.lines.first_line.Goals as goal

pub returns-in-Some-clause-split : goal.returns-in-Some-clause-split
returns-in-Some-clause-split c =
    let text = c.args.text.now in
    let at = c.in-Some.at in
    split_first text at c.in-Some.ensures.0.high (λ k low. c.in-Some.ensures.0.before k (omega arith) low) c.in-Some.ensures.1
    ∙ ap (λ n. take at text ∷ slice_split is_newline (drop n text)) (sym (add-one at))
    ∙ ap (λ l. take at text ∷ slice_split is_newline l) (sym (take_rest text (at + 1)))

pub returns-in-None-clause-split : goal.returns-in-None-clause-split
returns-in-None-clause-split c = split_none c.args.text.now (λ k low. c.in-None.ensures k (omega arith) low)
