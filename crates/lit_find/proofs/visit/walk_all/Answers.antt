use Rattle.lit_find.proofs.Names.{◌≡◌, List, [], MatchOption, subst, sym, ◌∙◌, Node, Parts, Looked, IsFirst, IsWalk, Place, Walk}
use Rattle.lit_look.proofs.TreeLemmas.{leaves_on}
use Rattle.lit_find.proofs.visit.walk_all.Goals as goal

-- a walk with what is before it written otherwise
with_pending : {nodes : List Node} {words : List Parts} {word : Parts} {first seen : List Looked} {walk : Walk}
    (pending : List Place) → walk.pending ≡ pending → IsWalk nodes words word first seen walk
    → IsWalk nodes words word first seen (record { found = walk.found; walked = walk.walked; taken = walk.taken; pending = pending })
with_pending {nodes = nodes} {words = words} {word = word} {first = first} {seen = seen} {walk = walk} pending same is =
    subst (λ places. IsWalk nodes words word first seen
    (record { found = walk.found; walked = walk.walked; taken = walk.taken; pending = places })) same is

pub loop-place-preserved : goal.loop-place-preserved
loop-place-preserved g c =
    let walk = c.loop-place.walk in
    let first = subst (λ found. MatchOption found ((walk.pending ≡ []) × (c.pop.new.self ≡ []))
    (IsFirst walk.pending c.pop.new.self)) c.in-Some.is c.in_ok-place.ensures in
    record {
      tree = leaves_on c.loop-place.invariant.tree c.in-Ok.ensures.tree;
      walk = λ nodes words word start told is.
          c.in-Ok.ensures.gives first.least nodes words word start (c.loop-place.invariant.tree.nodes ∙ told)
          (with_pending _ first.first (c.loop-place.invariant.walk nodes words word start told is));
    }

pub returns-in-Err-clause-gives : goal.returns-in-Err-clause-gives
returns-in-Err-clause-gives g c = λ nodes words word start told is.
    let walk = c.loop-place.walk in
    let first = subst (λ found. MatchOption found ((walk.pending ≡ []) × (c.pop.new.self ≡ []))
    (IsFirst walk.pending c.pop.new.self)) c.in-Some.is c.in_ok-place.ensures in
    c.in-Err.ensures.gives first.least nodes words word start (c.loop-place.invariant.tree.nodes ∙ told)
    (with_pending _ first.first (c.loop-place.invariant.walk nodes words word start told is))

pub returns-clause-gives : goal.returns-clause-gives
returns-clause-gives g c = λ nodes words word start told is.
    let walk = c.loop-place.walk in
    let none = subst (λ found. MatchOption found ((walk.pending ≡ []) × (c.pop.new.self ≡ []))
    (IsFirst walk.pending c.pop.new.self)) c.in_default.is c.in_ok-place.ensures in
    with_pending _ (none.0 ∙ sym none.1) (c.loop-place.invariant.walk nodes words word start told is)
