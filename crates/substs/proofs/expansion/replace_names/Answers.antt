use Rattle.std.proofs.Common.{rules, ◌+◌, Some, Err, sym, ap, ◌∙◌, subst, drop, arith}
use Rattle.substs.specs.Expansion.{Makes, after_all, name_rules}
use Rattle.substs.specs.Replacement.{name_rule}
use Rattle.substs.proofs.ExpansionLemmas.{names_end, names_opened, stage_fails, stage_step}
use Rattle.substs.proofs.expansion.replace_names.Goals as goal

pub returns-in_err-text : goal.returns-in_err-text
returns-in_err-text c =
    let pair = c.pair-item.result in
    let opened = names_opened c.args.pairs.now c.loop-pair.pair-index pair c.loop-pair-test.true c.pair-item.is in
    let due = rw c.as_slice.ensures at (rw c.as_slice-in-loop-pair.ensures at c.in_err-text.ensures) in
    let failed = stage_fails (name_rule pair.name pair.value) (name_rules (drop (c.loop-pair.pair-index + 1) c.args.pairs.now))
    c.loop-pair.text c.in_err-text.field-0.0 due in
    let whole = subst (Makes (Err c.in_err-text.field-0.0))
    (ap (λ l. after_all l (Some c.loop-pair.text)) (sym opened) ∙ c.loop-pair.invariant.rest) failed in
    (search (rules, whole, c.from_residual.ensures))

pub loop-pair-preserved : goal.loop-pair-preserved
loop-pair-preserved c =
    let pair = c.pair-item.result in
    let opened = names_opened c.args.pairs.now c.loop-pair.pair-index pair c.loop-pair-test.true c.pair-item.is in
    let due = rw c.as_slice.ensures at (rw c.as_slice-in-loop-pair.ensures at (c.in_ok-text.ensures).0) in
    let step = stage_step (name_rule pair.name pair.value) (name_rules (drop (c.loop-pair.pair-index + 1) c.args.pairs.now))
    c.loop-pair.text c.in_ok-text.text due in
    record {
      short = (c.in_ok-text.ensures).1;
      rest = sym (ap (λ l. after_all l (Some c.loop-pair.text)) opened ∙ step) ∙ c.loop-pair.invariant.rest;
    }

pub returns : goal.returns
returns c = (
  sym c.loop-pair.invariant.rest ∙ names_end c.args.pairs.now c.loop-pair.pair-index c.loop-pair.text
      (omega (arith, c.loop-pair-test)),
  c.loop-pair.invariant.short,
)
