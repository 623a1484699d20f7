use Rattle.std.proofs.Common.{inl, inr}
use Rattle.std.proofs.lemmas.List.Elements.{All-contains}
use Rattle.ere_tree.specs.View.{view}
use Rattle.ere_reach.specs.Rows.{IsIn}
use Rattle.ere_reach.proofs.EndingLemmas.{ends_told}
use Rattle.ere_reach.proofs.LeadsLemmas.{no_state}
use Rattle.ere_reach.proofs.ToldLemmas.{none_hold}
use Rattle.ere_reach.proofs.ending.ends_from.Goals as goal

pub reach-requires-clause-inside : goal.reach-requires-clause-inside
reach-requires-clause-inside c = λ h p has. elim ((c.in_ok-put.ensures.put h p).0 has) [
  | inl old ↦ absurd (no_state c.new-start.result c.new-start.ensures.none h p old)
  | inr new ↦ All-contains (IsIn c.args.site.low c.args.site.high) c.args.places.now p c.requires.inside new.1
]

pub returns : goal.returns
returns c =
    ends_told c.args.site (view c.args.ere.now) c.in_ok-found.found c.args.places.now c.new-start.result c.put.new.self
    (no_state c.new-start.result c.new-start.ensures.none) c.in_ok-put.ensures.put c.in_ok-found.ensures.leads

pub reach-requires-clause-memo : goal.reach-requires-clause-memo
reach-requires-clause-memo c = none_hold c.args.site c.new-memo.result c.new-memo.ensures.slots c.new-memo.ensures.asked
