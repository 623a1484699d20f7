use Rattle.std.proofs.Common.{[], ◌∷◌, ◌++◌, sym, ap, ◌∙◌, append_assoc}
use Rattle.std.specs.Vec.Iter.{into_iter_items}
use Rattle.ere_slow.proofs.slow.most_preferred.Goals as goal

pub loop-one-preserved : goal.loop-one-preserved
loop-one-preserved c = (
  c.better.ensures c.loop-one.yielded c.loop-one.invariant.0,
  append_assoc c.loop-one.yielded (c.in-Some.one ∷ []) (into_iter_items c.next.new.self)
      ∙ ap (λ rest. c.loop-one.yielded ++ rest) (sym c.in-Some.ensures.steps.0) ∙ c.loop-one.invariant.1,
)
