use Rattle.std.proofs.Common.{sym, ◌∙◌, refl, true≢false, arith}
use Rattle.ere_tree.specs.View.{members_of}
use Rattle.ere_places.proofs.LeafLemmas.{tested_holds, tested_fails, tested_nowhere, set_tested, other_end_within}
use Rattle.ere_places.proofs.leaf.past_set.Goals as goal

pub bounds-text-start : goal.bounds-text-start
bounds-text-start c =
    let within = other_end_within c.args.window c.args.place 1 c.in-Some.start c.in-Some.end
    c.requires.inside ((c.in-Some.ensures c.in-Some.start c.in-Some.end).0 refl) in
    omega (arith, within, c.requires.window)

pub returns-then-has : goal.returns-then-has
returns-then-has c = tested_holds _ _ _ c.in-Some.start c.in-Some.end
    (set_tested c.args.text.now (members_of c.args.set.now.bits) c.args.window c.args.place c.requires.inside
    c.requires.window)
    c.in-Some.ensures (c.has.ensures.member.0 c.if-has.true)

pub returns-else-has : goal.returns-else-has
returns-else-has c = tested_fails _ _ _ c.in-Some.start c.in-Some.end
    (set_tested c.args.text.now (members_of c.args.set.now.bits) c.args.window c.args.place c.requires.inside
    c.requires.window)
    c.in-Some.ensures (λ is. true≢false (sym (c.has.ensures.member.1 is) ∙ c.if-has.false))

pub returns-in-None : goal.returns-in-None
returns-in-None c = tested_nowhere _ _ _
    (set_tested c.args.text.now (members_of c.args.set.now.bits) c.args.window c.args.place c.requires.inside
    c.requires.window)
    c.in-None.ensures
