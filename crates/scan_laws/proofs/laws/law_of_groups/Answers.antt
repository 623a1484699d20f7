use Rattle.scan_laws.proofs.GroupLemmas.{each_try_begins_behind, groups_are_members, no_two_share_bytes}
use Rattle.scan_laws.proofs.laws.law_of_groups.Goals as goal

pub returns : goal.returns
returns c = record { bytes = no_two_share_bytes; tries = each_try_begins_behind; members = groups_are_members }
