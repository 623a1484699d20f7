use Rattle.std.proofs.Common.{rules, ◌-◌, length, Some, Err, sym, ap, ◌∙◌, subst, take, take_all, drop, length-drop, arith}
use Rattle.substs.specs.Expansion.{Makes, after_all, line_rules, name_rules, rules_of, within}
use Rattle.substs.specs.declared.fail.ExpandFail.TheVariants.{TooLong}
use Rattle.substs.proofs.ExpansionLemmas.{in_three, named_behind, stops}
use Rattle.substs.proofs.ReplacementLemmas.{copied, is_too_long}
use Rattle.substs.proofs.expansion.expand_part.Goals as goal

pub returns-then-part-gt-MAX_LINE : goal.returns-then-part-gt-MAX_LINE
returns-then-part-gt-MAX_LINE c =
    stops (rules_of c.args.pairs.now c.args.suite c.args.line_no) TooLong (within c.args.part.now)
    (is_too_long c.args.part.now c.if-part-gt-MAX_LINE.true)

pub returns-in_err-text : goal.returns-in_err-text
returns-in_err-text c =
    let front = name_rules (take c.args.suite c.args.pairs.now) in
    let middle = line_rules c.args.line_no in
    let behind = name_rules (drop c.args.suite c.args.pairs.now) in
    let failed = c.in_err-text.field-0.0 in
    let copy = copied c.args.part.now c.in-Ok.copy c.in-Ok.ensures (omega (arith, c.if-part-gt-MAX_LINE)) in
    let first = subst (λ o. Makes (Err failed) (after_all front o)) copy c.in_err-text.ensures in
    let whole = in_three front middle behind (within c.args.part.now) (Err failed)
    (stops behind failed _ (stops middle failed _ first)) in
    (search (rules, whole, c.from_residual.ensures))

pub returns-in_err-text-2 : goal.returns-in_err-text-2
returns-in_err-text-2 c =
    let front = name_rules (take c.args.suite c.args.pairs.now) in
    let middle = line_rules c.args.line_no in
    let behind = name_rules (drop c.args.suite c.args.pairs.now) in
    let failed = c.in_err-text-2.field-0.0 in
    let copy = copied c.args.part.now c.in-Ok.copy c.in-Ok.ensures (omega (arith, c.if-part-gt-MAX_LINE)) in
    let first = ap (after_all front) (sym copy) ∙ (c.in_ok-text.ensures).0 in
    let second = subst (λ o. Makes (Err failed) (after_all middle o)) (sym first) c.in_err-text-2.ensures in
    let whole = in_three front middle behind (within c.args.part.now) (Err failed) (stops behind failed _ second) in
    (search (rules, whole, c.from_residual-in_err-text-2.ensures))

pub replace_names-requires-2-clause-named : goal.replace_names-requires-2-clause-named
replace_names-requires-2-clause-named c = named_behind c.args.pairs.now c.args.suite c.requires.named

pub returns : goal.returns
returns c =
    let front = name_rules (take c.args.suite c.args.pairs.now) in
    let middle = line_rules c.args.line_no in
    let left = drop c.args.suite c.args.pairs.now in
    let made = c.replace_names-2.result in
    let copy = copied c.args.part.now c.in-Ok.copy c.in-Ok.ensures (omega (arith, c.if-part-gt-MAX_LINE)) in
    let second = ap (λ o. after_all middle (after_all front o)) (sym copy)
    ∙ ap (after_all middle) (c.in_ok-text.ensures).0 ∙ (c.in_ok-text-2.ensures).0 in
    let rest = take_all (length c.args.pairs.now - c.args.suite) left (omega (arith, length-drop c.args.suite c.args.pairs.now)) in
    let due = subst (λ l. Makes made (after_all (name_rules l) (Some c.in_ok-text-2.text))) rest c.replace_names-2.ensures in
    in_three front middle (name_rules left) (within c.args.part.now) made
    (subst (λ o. Makes made (after_all (name_rules left) o)) (sym second) due)
