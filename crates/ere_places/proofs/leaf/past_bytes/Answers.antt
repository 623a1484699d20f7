use Rattle.std.proofs.Common.{length, sym, ◌∙◌, refl, true≢false, arith}
use Rattle.ere_places.proofs.LeafLemmas.{tested_holds, tested_fails, tested_nowhere, plain_tested, other_end_within}
use Rattle.ere_places.proofs.leaf.past_bytes.Goals as goal

pub stands-requires : goal.stands-requires
stands-requires c =
    let within = other_end_within c.args.window c.args.place (length c.args.bytes.now) c.in-Some.start c.in-Some.end
    c.requires.inside ((c.in-Some.ensures c.in-Some.start c.in-Some.end).0 refl) in
    omega (arith, within, c.requires.window)

pub returns-then-stands : goal.returns-then-stands
returns-then-stands c = tested_holds _ _ _ c.in-Some.start c.in-Some.end
    (plain_tested c.args.text.now c.args.bytes.now c.args.window c.args.place c.requires.inside c.requires.window)
    c.in-Some.ensures (c.stands.ensures.0 c.if-stands.true)

pub returns-else-stands : goal.returns-else-stands
returns-else-stands c = tested_fails _ _ _ c.in-Some.start c.in-Some.end
    (plain_tested c.args.text.now c.args.bytes.now c.args.window c.args.place c.requires.inside c.requires.window)
    c.in-Some.ensures (λ is. true≢false (sym (c.stands.ensures.1 is) ∙ c.if-stands.false))

pub returns-in-None : goal.returns-in-None
returns-in-None c = tested_nowhere _ _ _
    (plain_tested c.args.text.now c.args.bytes.now c.args.window c.args.place c.requires.inside c.requires.window)
    c.in-None.ensures
