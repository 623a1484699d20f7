use Rattle.std.proofs.Common.{◌≡◌, ◌+◌, length, drop, ap, sym, ◌∙◌, arith, length-drop}
use Rattle.std.proofs.lemmas.List.{take_rest}
use Rattle.std.specs.List.{before_first}
use Rattle.tt_base.proofs.LineLemmas.{before_first_found, before_first_none}
use Rattle.tt_base.specs.Place.{is_newline}
use Rattle.input_dump.proofs.newlines.line_end.Goals as goal

pub returns-in-Some : goal.returns-in-Some
returns-in-Some c =
    ap (λ n. c.args.at + n) (sym (before_first_found is_newline _ c.in-Some.newline c.in-Some.ensures)
    ∙ ap (λ l. length (before_first is_newline l)) (take_rest c.args.text.now c.args.at))

pub returns-in-None : goal.returns-in-None
returns-in-None c =
    let rest = take_rest c.args.text.now c.args.at in
    let whole : length (before_first is_newline (drop c.args.at c.args.text.now)) ≡ length (drop c.args.at c.args.text.now) =
    sym (ap (λ l. length (before_first is_newline l)) rest) ∙ before_first_none is_newline _ c.in-None.ensures ∙ ap length rest in
    omega (arith, whole, length-drop c.args.at c.args.text.now, c.requires)
