use Rattle.std.proofs.Common.{rules, ℕ, codes, decimal, true, false, [], ◌∷◌, Err, sym, ◌∙◌, subst}
use Rattle.substs.specs.Expansion.{Makes}
use Rattle.substs.specs.Replacement.{Rule, form_rule, name_rule, reckoned}
use Rattle.substs.proofs.ExpansionLemmas.{stage_fails, stage_last, stage_step}
use Rattle.substs.proofs.expansion.replace_line.Goals as goal

-- the rules of a line's number, in their order
abbrev own : ℕ → Rule
own n = name_rule (codes "%(line)") (decimal n)

abbrev ahead : ℕ → Rule
ahead n = form_rule (codes "%(line+") (reckoned true n)

abbrev back : ℕ → Rule
back n = form_rule (codes "%(line-") (reckoned false n)

pub returns-in_err-text : goal.returns-in_err-text
returns-in_err-text c =
    let n = c.args.line_no in
    let failed = stage_fails (own n) (ahead n ∷ back n ∷ []) c.args.text c.in_err-text.field-0.0
    (rw (c.as_bytes.ensures.value ∙ c.format.ensures.text) at c.in_err-text.ensures) in
    (search (rules, failed, c.from_residual.ensures))

pub returns-in_err-text-2 : goal.returns-in_err-text-2
returns-in_err-text-2 c =
    let n = c.args.line_no in
    let before = stage_step (own n) (ahead n ∷ back n ∷ []) c.args.text c.in_ok-text.text
    (rw (c.as_bytes.ensures.value ∙ c.format.ensures.text) at (c.in_ok-text.ensures).0) in
    let failed = subst (Makes (Err c.in_err-text-2.field-0.0)) (sym before)
    (stage_fails (ahead n) (back n ∷ []) c.in_ok-text.text c.in_err-text-2.field-0.0
    (rw c.as_slice.ensures at c.in_err-text-2.ensures)) in
    (search (rules, failed, c.from_residual-in_err-text-2.ensures))

pub returns : goal.returns
returns c =
    let n = c.args.line_no in
    let before = stage_step (own n) (ahead n ∷ back n ∷ []) c.args.text c.in_ok-text.text
    (rw (c.as_bytes.ensures.value ∙ c.format.ensures.text) at (c.in_ok-text.ensures).0) in
    let behind = stage_step (ahead n) (back n ∷ []) c.in_ok-text.text c.in_ok-text-2.text
    (rw c.as_slice.ensures at (c.in_ok-text-2.ensures).0) in
    subst (Makes c.replace_forms-2.result) (sym (before ∙ behind)) (stage_last (back n) c.in_ok-text-2.text
    c.replace_forms-2.result (rw c.as_slice-2.ensures at c.replace_forms-2.ensures))
