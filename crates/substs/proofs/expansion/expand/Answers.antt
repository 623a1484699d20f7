-- A line that is expanded: what is made, in front of what the parts behind it become, is what the whole line becomes.
-- Each exit and each turn of the loop is one lemma of ExpansionLemmas, with the rules of the pairs as the code slices them.
-- The hard one is `loop-at-preserved`.
use Rattle.std.proofs.Common.{◌≡◌, ℕ, ◌++◌, List, Result, codes, Ok, Err, refl, ap, ◌∙◌, subst, arith}
use Rattle.tt_outside.specs.declared.request.Pair.{Pair}
use Rattle.substs.specs.Expansion.{Adds, Makes, after_all, rules_of, within}
use Rattle.substs.specs.declared.fail.ExpandFail.{ExpandFail}
use Rattle.substs.proofs.ExpansionLemmas.{handed, last_fails, last_is, part_fails, part_step, part_too_long}
use Rattle.substs.proofs.ReplacementLemmas.{fails_last, makes_last}
use Rattle.substs.proofs.expansion.expand.Goals as goal

-- what a part becomes, by the pairs as the code slices them
due : (slice pairs : List Pair) (suite n : ℕ) (part : List ℕ) (made : Result (List ℕ) ExpandFail) → slice ≡ pairs
    → Makes made (after_all (rules_of slice suite n) (within part))
    → Makes made (after_all (rules_of pairs suite n) (within part))
due slice pairs suite n part made same is = subst (λ p. Makes made (after_all (rules_of p suite n) (within part))) same is

pub loop-at-preserved : goal.loop-at-preserved
loop-at-preserved c =
    let i = c.loop-at.invariant in
    let rules = rules_of c.args.list.now.pairs c.args.suite c.args.line_no in
    let made = due _ _ _ _ _ (Ok c.in_ok-part.part) c.as_slice-pairs.ensures c.in_ok-part.ensures in
    let added = (c.in_ok-add_both.ensures).0 ∙ ap (λ p. c.loop-at.made ++ (p ++ codes "%")) c.as_slice.ensures in
    record {
      inside = omega (arith, c.in-Some.ensures.first);
      short = (c.in_ok-add_both.ensures).1;
      rest = part_step rules c.loop-at.made c.args.line.now c.loop-at.from c.in-Some.at _ c.in-Some.ensures.value i.inside i.rest
          c.in_ok-part.part _ made added;
    }

pub returns-in_err-part : goal.returns-in_err-part
returns-in_err-part c =
    let i = c.loop-at.invariant in
    let o = c.from_residual in
    let rules = rules_of c.args.list.now.pairs c.args.suite c.args.line_no in
    let fails = due _ _ _ _ _ (Err c.in_err-part.field-0.0) c.as_slice-pairs.ensures c.in_err-part.ensures in
    handed o.result _ _ (o.ensures).0 (o.ensures).1 (part_fails rules c.loop-at.made c.args.line.now c.loop-at.from
    c.in-Some.at _ c.in-Some.ensures.value i.inside i.rest c.in_err-part.field-0.0 fails)

pub returns-in_err-add_both : goal.returns-in_err-add_both
returns-in_err-add_both c =
    let i = c.loop-at.invariant in
    let o = c.from_residual-in_err-add_both in
    let rules = rules_of c.args.list.now.pairs c.args.suite c.args.line_no in
    let made = due _ _ _ _ _ (Ok c.in_ok-part.part) c.as_slice-pairs.ensures c.in_ok-part.ensures in
    let added = subst (λ p. Adds c.loop-at.made (p ++ codes "%") c.add_both.new.line (Err c.in_err-add_both.field-0.0))
    c.as_slice.ensures c.in_err-add_both.ensures in
    handed o.result _ _ (o.ensures).0 (o.ensures).1 (part_too_long rules c.loop-at.made c.args.line.now c.loop-at.from
    c.in-Some.at _ c.in-Some.ensures.value i.inside i.rest c.in_ok-part.part c.add_both.new.line _ made added)

pub returns-in_err-part-2 : goal.returns-in_err-part-2
returns-in_err-part-2 c =
    let i = c.loop-at.invariant in
    let o = c.from_residual-in_err-part-2 in
    let rules = rules_of c.args.list.now.pairs c.args.suite c.args.line_no in
    let fails = due _ _ _ _ _ (Err c.in_err-part-2.field-0.0) c.as_slice-pairs.ensures c.in_err-part-2.ensures in
    handed o.result _ _ (o.ensures).0 (o.ensures).1 (last_fails rules c.loop-at.made c.args.line.now c.loop-at.from _
    c.in_default.ensures.value i.inside i.rest c.in_err-part-2.field-0.0 fails)

pub returns-in_err-add : goal.returns-in_err-add
returns-in_err-add c =
    let i = c.loop-at.invariant in
    let o = c.from_residual-in_err-add in
    let rules = rules_of c.args.list.now.pairs c.args.suite c.args.line_no in
    let made = due _ _ _ _ _ (Ok c.in_ok-part-2.part) c.as_slice-pairs.ensures c.in_ok-part-2.ensures in
    let last = last_is rules c.loop-at.made c.args.line.now c.loop-at.from _ c.in_default.ensures.value i.inside i.rest
    c.in_ok-part-2.part made in
    let added = subst (λ p. Adds c.loop-at.made p c.add.new.line (Err c.in_err-add.field-0.0)) c.as_slice-2.ensures
    c.in_err-add.ensures in
    handed o.result _ _ (o.ensures).0 (o.ensures).1 (subst (Makes (Err c.in_err-add.field-0.0)) last
    (fails_last c.loop-at.made c.in_ok-part-2.part c.add.new.line _ c.in_err-add.field-0.0 added refl))

pub returns : goal.returns
returns c =
    let i = c.loop-at.invariant in
    let rules = rules_of c.args.list.now.pairs c.args.suite c.args.line_no in
    let made = due _ _ _ _ _ (Ok c.in_ok-part-2.part) c.as_slice-pairs.ensures c.in_ok-part-2.ensures in
    let last = last_is rules c.loop-at.made c.args.line.now c.loop-at.from _ c.in_default.ensures.value i.inside i.rest
    c.in_ok-part-2.part made in
    let same : c.add.new.line ≡ c.loop-at.made ++ c.in_ok-part-2.part =
    (c.in_ok-add.ensures).0 ∙ ap (λ p. c.loop-at.made ++ p) c.as_slice-2.ensures in
    subst (Makes (Ok c.add.new.line)) last
    (makes_last c.loop-at.made c.in_ok-part-2.part c.add.new.line _ (same, (c.in_ok-add.ensures).1) refl)
