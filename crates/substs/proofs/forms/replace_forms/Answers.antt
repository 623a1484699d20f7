-- Forms are replaced one behind the other: what is made, in front of what is left, is the whole.
-- Each turn adds one piece, `form_piece` or `no_form_piece`; where a piece no longer fits the whole is too long.
-- The hard one is `loop-at-preserved-in-Some-closed_number`, a form that is replaced.
use Rattle.std.proofs.Common.{rules, ◌+◌, ◌≤◌, length, arith}
use Rattle.substs.specs.Replacement.{reckoned}
use Rattle.substs.proofs.ReplacementLemmas.{fails, fails_last, makes_last, last_step, form_needs, form_piece, no_form_piece, onward}
use Rattle.substs.proofs.forms.replace_forms.Goals as goal

pub loop-at-preserved-in-Some-closed_number : goal.loop-at-preserved-in-Some-closed_number
loop-at-preserved-in-Some-closed_number c =
    let i = c.loop-at.invariant in
    let found = c.in-Some-closed_number in
    let piece = form_piece c.args.front.now (reckoned c.args.ahead c.args.line) c.requires c.args.text.now c.loop-at.done
    i.within c.in-Some.at c.in-Some.ensures.value (omega (arith, c.in-Some.ensures.first)) found.count found.number
    found.ensures.value found.ensures.lies in
    let added = c.in_ok-add_line-in-Some-closed_number.ensures in
    record { within = piece.0; short = added.1; rest = onward c.loop-at.made _ _ _ added.0 i.rest piece.1 }

pub loop-at-preserved : goal.loop-at-preserved
loop-at-preserved c =
    let i = c.loop-at.invariant in
    let piece = no_form_piece c.args.front.now (reckoned c.args.ahead c.args.line) c.requires c.args.text.now c.loop-at.done
    i.within c.in-Some.at c.in-Some.ensures.value (omega (arith, c.in-Some.ensures.first)) c.in-None.ensures.value in
    let ends : c.in-Some.at + 1 ≤ length c.args.text.now = omega (arith, c.requires, c.in-Some.ensures.first) in
    let added = c.in_ok-add-in-None.ensures in
    record { within = ends; short = added.1; rest = onward c.loop-at.made _ _ _ added.0 i.rest piece }

pub returns-in_err-add_line-in-Some-closed_number : goal.returns-in_err-add_line-in-Some-closed_number
returns-in_err-add_line-in-Some-closed_number c =
    let i = c.loop-at.invariant in
    let found = c.in-Some-closed_number in
    let piece = form_piece c.args.front.now (reckoned c.args.ahead c.args.line) c.requires c.args.text.now c.loop-at.done
    i.within c.in-Some.at c.in-Some.ensures.value (omega (arith, c.in-Some.ensures.first)) found.count found.number
    found.ensures.value found.ensures.lies in
    let err = c.in_err-add_line-in-Some-closed_number in
    let failed = fails c.loop-at.made _ c.add_line.new.made _ err.field-0.0 err.ensures i.rest piece.1 in
    (search (rules, failed, c.from_residual.ensures))

pub returns-in_err-add-in-None : goal.returns-in_err-add-in-None
returns-in_err-add-in-None c =
    let i = c.loop-at.invariant in
    let piece = no_form_piece c.args.front.now (reckoned c.args.ahead c.args.line) c.requires c.args.text.now c.loop-at.done
    i.within c.in-Some.at c.in-Some.ensures.value (omega (arith, c.in-Some.ensures.first)) c.in-None.ensures.value in
    let err = c.in_err-add-in-None in
    let failed = fails c.loop-at.made _ c.add.new.line _ err.field-0.0 err.ensures i.rest piece in
    (search (rules, failed, c.from_residual-in_err-add-in-None.ensures))

pub returns-in_err-add : goal.returns-in_err-add
returns-in_err-add c =
    let i = c.loop-at.invariant in
    let last = last_step c.args.front.now _ (form_needs c.args.front.now (reckoned c.args.ahead c.args.line)) c.requires
    c.args.text.now c.loop-at.done i.within c.loop-at.made _ i.rest c.in_default.ensures.value in
    let failed = fails_last c.loop-at.made _ c.add-2.new.line _ c.in_err-add.field-0.0 c.in_err-add.ensures last in
    (search (rules, failed, c.from_residual-in_err-add.ensures))

pub returns : goal.returns
returns c =
    let i = c.loop-at.invariant in
    let last = last_step c.args.front.now _ (form_needs c.args.front.now (reckoned c.args.ahead c.args.line)) c.requires
    c.args.text.now c.loop-at.done i.within c.loop-at.made _ i.rest c.in_default.ensures.value in
    makes_last c.loop-at.made _ _ _ c.in_ok-add.ensures last
