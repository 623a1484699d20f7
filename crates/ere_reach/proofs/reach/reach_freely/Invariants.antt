use Rattle.ere_tree.specs.View.{view}
use Rattle.ere_reach.specs.Leads.{Does}
use Rattle.ere_reach.specs.Live.{reads}
use Rattle.ere_reach.specs.Memo.{AllHold}
use Rattle.ere_reach.proofs.StepLemmas.{GoneBy}
use Rattle.ere_reach.proofs.TakenLemmas.{Taken}
use Rattle.ere_reach.proofs.reach.reach_freely.Given as goal

abbrev pub invariant-loop-row : goal.invariant-loop-row
invariant-loop-row l = record {
  found : GoneBy l.site (Does l.site.text.now (view l.ere)) (reads (view l.ere)) l.live (Taken l.row-items l.row-index) l.found;
  memo : AllHold l.site l.memo;
}
