use Rattle.std.proofs.Common.{List, ℕ, subst}
use Rattle.ere_reach.specs.Refers.{HasMore, Refers}
use Rattle.ere_tree.specs.View.{view}
use Rattle.ere_reach.proofs.live.live_between.Goals as goal

pub returns : goal.returns
returns c =
    subst (λ (xs : List ℕ). HasMore (Refers (view c.args.inner.now)) xs c.put_refs.new.numbers.items)
    c.in_ok-live.ensures.items c.in_ok-put_refs.ensures
