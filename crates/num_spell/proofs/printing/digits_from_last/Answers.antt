use Rattle.std.proofs.Common.{◌≡◌, ◌+◌, ◌-◌, ◌/◌, suc, ◌++◌, ◌∷◌, [], reverse, arith, sym, ap, ◌∙◌}
use Rattle.std.specs.Fmt.{digits_onto}
use Rattle.num_spell.proofs.PrintLemmas.{begun, one_more, last_one}
use Rattle.num_spell.proofs.printing.digits_from_last.Goals as goal

pub loop-taken-init : goal.loop-taken-init
loop-taken-init c =
    ap (λ made. digits_onto 64 c.args.base c.args.upper c.args.n (reverse made)) c.new-made.ensures.items
    ∙ begun c.args.base c.args.n c.args.upper

pub loop-taken-preserved : goal.loop-taken-preserved
loop-taken-preserved c =
    let left : 64 - c.loop-taken.taken ≡ suc (64 - (c.loop-taken.taken + 1)) = omega arith in
    ap (λ made. digits_onto (64 - (c.loop-taken.taken + 1)) c.args.base c.args.upper (c.loop-taken.rest / c.args.base)
    (reverse made)) (c.in_ok-push.ensures.items ∙ ap (λ g. c.loop-taken.made.items ++ g ∷ []) c.glyph.ensures)
    ∙ sym (one_more (64 - (c.loop-taken.taken + 1)) c.args.base c.loop-taken.rest c.args.upper c.loop-taken.made.items
    c.if-rest-eq0.false)
    ∙ ap (λ k. digits_onto k c.args.base c.args.upper c.loop-taken.rest (reverse c.loop-taken.made.items)) (sym left)
    ∙ c.loop-taken.invariant

pub returns-then-rest-eq0 : goal.returns-then-rest-eq0
returns-then-rest-eq0 c =
    let left : 64 - c.loop-taken.taken ≡ suc (64 - (c.loop-taken.taken + 1)) = omega arith in
    ap reverse (c.in_ok-push.ensures.items ∙ ap (λ g. c.loop-taken.made.items ++ g ∷ []) c.glyph.ensures)
    ∙ sym (last_one (64 - (c.loop-taken.taken + 1)) c.args.base c.loop-taken.rest c.args.upper c.loop-taken.made.items
    c.if-rest-eq0.true)
    ∙ ap (λ k. digits_onto k c.args.base c.args.upper c.loop-taken.rest (reverse c.loop-taken.made.items)) (sym left)
    ∙ c.loop-taken.invariant

pub returns : goal.returns
returns c =
    let left : 64 - c.loop-taken.taken ≡ 0 = omega arith in
    ap (λ k. digits_onto k c.args.base c.args.upper c.loop-taken.rest (reverse c.loop-taken.made.items)) (sym left)
    ∙ c.loop-taken.invariant
