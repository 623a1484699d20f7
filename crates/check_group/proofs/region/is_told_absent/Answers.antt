use Rattle.std.proofs.Common.{subst, drop}
use Rattle.check_group.specs.Region.{AreOf}
use Rattle.check_group.proofs.RegionLemmas.{lacks}
use Rattle.check_group.proofs.region.is_told_absent.Goals as goal

pub returns-in-Some : goal.returns-in-Some
returns-in-Some c = λ told text from are vars line.
    lacks _ c.args.pattern.now (c.lack_pattern.ensures.fixed told) (c.lack_pattern.ensures.lack told) text from
    (subst (λ known. AreOf (drop from text) known) c.in-Some.is are) vars line
