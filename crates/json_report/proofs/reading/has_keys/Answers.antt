use Rattle.std.proofs.Common.{ap, nat_eq}
use Rattle.json_report.proofs.TextLemmas.{count_view}
use Rattle.json_report.proofs.reading.has_keys.Goals as goal

pub returns-in-Some : goal.returns-in-Some
returns-in-Some c =
    rw (← c.in-Some.ensures, count_view c.in-Some.members.now.entries) (ap (λ n. nat_eq n c.args.count) c.len.ensures.len)
