use Rattle.std.proofs.Common.{◌≡◌, ◌+◌, ◌<◌, ℕ, Option, length, sym, ◌∙◌, ap, arith, subst}
use Rattle.prefix_tree.specs.Tree.{ended}
use Rattle.prefix_tree.specs.declared.standing.Standing.{Standing}
use Rattle.prefix_tree.specs.Turns.{end_of, next_of}
use Rattle.prefix_tree.proofs.TreeLemmas.{Walked, walk_begins, walk_ends, walk_next, walk_stops}
use Rattle.prefix_tree.proofs.tree.longest_in.Goals as goal

pub loop-length-init : goal.loop-length-init
loop-length-init c = record {
  within = omega arith;
  walked = walk_begins c.args.prefixes.now c.args.text.now (next_of c.args.turns.now) (end_of c.args.turns.now) c.requires;
}

-- what is answered, by the turns
is_ended : (found end : Option ℕ) (count : ℕ) (best result : Option Standing) → result ≡ ended found count best → found ≡ end
    → ended end count best ≡ result
is_ended found end count best result is same = ap (λ o. ended o count best) (sym same) ∙ sym is

pub returns-then-length-text : goal.returns-then-length-text
returns-then-length-text c =
    let l = c.loop-length in
    sym (is_ended _ _ l.length l.best _ c.ended-best.ensures c.end.ensures)
    ∙ walk_ends c.args.prefixes.now c.args.text.now (next_of c.args.turns.now) (end_of c.args.turns.now) c.requires l.owner l.length
    l.best l.invariant.within l.invariant.walked (omega (arith, c.if-length-text.true))

pub returns-in-None : goal.returns-in-None
returns-in-None c =
    let l = c.loop-length in
    sym (is_ended _ _ l.length l.best _ c.ended-best.ensures c.end.ensures)
    ∙ walk_stops c.args.prefixes.now c.args.text.now (next_of c.args.turns.now) (end_of c.args.turns.now) c.requires l.owner l.length
    l.best l.invariant.within l.invariant.walked (sym c.next.ensures ∙ c.in-None.is)

pub loop-length-preserved : goal.loop-length-preserved
loop-length-preserved c =
    let l = c.loop-length in
    let inside : l.length < length c.args.text.now = omega (arith, l.invariant.within, c.if-length-text.false) in
    record {
      within = omega (arith, inside);
      walked = subst (λ best. ∥ Walked c.args.prefixes.now c.args.text.now (next_of c.args.turns.now) (end_of c.args.turns.now)
          c.in-Some.next (l.length + 1) best ∥₁)
          (is_ended _ _ l.length l.best _ c.ended-best.ensures c.end.ensures)
          (walk_next c.args.prefixes.now c.args.text.now (next_of c.args.turns.now) (end_of c.args.turns.now) c.requires l.owner
          l.length l.best l.invariant.within l.invariant.walked c.in-Some.next inside (sym c.next.ensures ∙ c.in-Some.is));
    }
