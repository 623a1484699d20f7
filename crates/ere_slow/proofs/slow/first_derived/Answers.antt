use Rattle.std.proofs.Common.{arith}
use Rattle.std.specs.FinMap.{empty}
use Rattle.ere_tree.proofs.DerivationLemmas.{is_part}
use Rattle.ere_tree.specs.View.{view}
use Rattle.ere_slow.proofs.slow.first_derived.Goals as goal

pub returns : goal.returns
returns c = λ h k v d shows.
    let lies = is_part c.args.slice.now (view c.args.ere.now) v h k empty d shows in
    c.loop-start.invariant h k v d (omega (arith, lies.0, lies.1)) shows
