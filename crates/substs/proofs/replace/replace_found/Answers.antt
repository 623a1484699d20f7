use Rattle.std.proofs.Common.{rules, ◌+◌, ◌≤◌, length, arith}
use Rattle.substs.proofs.ReplacementLemmas.{fails, fails_last, makes_last, last_step, name_needs, name_piece, onward}
use Rattle.substs.proofs.replace.replace_found.Goals as goal

pub loop-at-preserved : goal.loop-at-preserved
loop-at-preserved c =
    let i = c.loop-at.invariant in
    let ends : c.in-Some.at + length c.args.name.now ≤ length c.args.text.now = omega (arith, c.in-Some.ensures.first) in
    let piece = name_piece c.args.name.now c.args.value.now c.requires.named c.args.text.now c.loop-at.done i.within
    c.in-Some.at c.in-Some.ensures.value ends in
    let added = c.in_ok-add_both.ensures in
    record { within = ends; short = added.1; rest = onward c.loop-at.made _ _ _ added.0 i.rest piece }

pub returns-in_err-add_both : goal.returns-in_err-add_both
returns-in_err-add_both c =
    let i = c.loop-at.invariant in
    let piece = name_piece c.args.name.now c.args.value.now c.requires.named c.args.text.now c.loop-at.done i.within
    c.in-Some.at c.in-Some.ensures.value (omega (arith, c.in-Some.ensures.first)) in
    let err = c.in_err-add_both in
    let failed = fails c.loop-at.made _ c.add_both.new.line _ err.field-0.0 err.ensures i.rest piece in
    (search (rules, failed, c.from_residual.ensures))

pub returns-in_err-add : goal.returns-in_err-add
returns-in_err-add c =
    let i = c.loop-at.invariant in
    let last = last_step c.args.name.now _ (name_needs c.args.name.now c.args.value.now) c.requires.named c.args.text.now
    c.loop-at.done i.within c.loop-at.made _ i.rest c.in_default.ensures.value in
    let failed = fails_last c.loop-at.made _ c.add.new.line _ c.in_err-add.field-0.0 c.in_err-add.ensures last in
    (search (rules, failed, c.from_residual-in_err-add.ensures))

pub returns : goal.returns
returns c =
    let i = c.loop-at.invariant in
    let last = last_step c.args.name.now _ (name_needs c.args.name.now c.args.value.now) c.requires.named c.args.text.now
    c.loop-at.done i.within c.loop-at.made _ i.rest c.in_default.ensures.value in
    makes_last c.loop-at.made _ _ _ c.in_ok-add.ensures last
