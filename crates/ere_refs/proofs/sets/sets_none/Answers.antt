use Rattle.std.proofs.Common.{ℕ, List, sym, subst, take_all, arith}
use Rattle.std.specs.List.{Contains}
use Rattle.ere_refs.proofs.AgreeLemmas.{both_stay}
use Rattle.ere_tree.specs.View.{view}
use Rattle.ere_refs.proofs.sets.sets_none.Goals as goal

pub returns : goal.returns
returns c = λ tells s w v i j b d e h g n has.
    both_stay s (view c.args.ere.now) w v i j b d e h g n
    (c.loop-number.invariant n (subst (λ (xs : List ℕ). Contains xs n)
    (sym (take_all c.loop-number.number-index c.args.live.now (omega (arith, c.loop-number-test.false)))) has))
