use Rattle.pattern_laws.proofs.GroupLemmas.{groups_are_set, unreadable_lies}
use Rattle.pattern_laws.proofs.laws.law_of_groups.Goals as goal

pub returns : goal.returns
returns c = record { set = groups_are_set; unreadable = unreadable_lies }
