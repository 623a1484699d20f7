use Rattle.std.proofs.Common.{subst, sym, arith}
use Rattle.std.specs.List.{All}
use Rattle.std.proofs.lemmas.List.Elements.{All-get_or, All-push, All-set}
use Rattle.std.proofs.lemmas.Result.{on_ok_weaker}
use Rattle.ere_reach.specs.Asked.{IsBuilt}
use Rattle.ere_reach.proofs.asked.AskedEnds.ends.Goals as goal

pub ends-requires-clause-built : goal.ends-requires-clause-built
ends-requires-clause-built c =
    subst IsBuilt (sym c.index_mut.ensures.value)
    (All-get_or IsBuilt c.loop-index.self.all.items c.loop-index.index _
    (omega (arith, c.loop-index-test.true, c.loop-index.invariant.end)) c.loop-index.invariant.built)

pub returns-then-are_one-clause-built : goal.returns-then-are_one-clause-built
returns-then-are_one-clause-built c = on_ok_weaker c.ends.result
    (λ built. All-set IsBuilt c.loop-index.self.all.items c.loop-index.index c.ends.new.self built c.loop-index.invariant.built)
    c.ends.ensures.built

pub returns-clause-built : goal.returns-clause-built
returns-clause-built c =
    subst (All IsBuilt) (sym c.in_ok-push.ensures.items)
    (All-push IsBuilt c.loop-index.self.all.items c.ends-2.new.self c.loop-index.invariant.built c.in_ok-found.ensures.built)
