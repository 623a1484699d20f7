use Rattle.std.proofs.Common.{sym, subst}
use Rattle.ere_tree.specs.View.{view}
use Rattle.ere_slow.specs.Slow.{HasNoHitBefore}
use Rattle.ere_slow.proofs.slow.slow_hit_from.Goals as goal

pub derived_from-requires : goal.derived_from-requires
derived_from-requires c =
    subst (λ s. HasNoHitBefore s (view c.args.ere.now) c.args.start) (sym c.behind-slice.ensures.value) c.requires.before

pub returns-in_ok-raised-in-Some : goal.returns-in_ok-raised-in-Some
returns-in_ok-raised-in-Some c = record {
  hit = c.in_ok-raised-in-Some.ensures c.args.text.now (sym c.behind-slice.ensures.value);
}
