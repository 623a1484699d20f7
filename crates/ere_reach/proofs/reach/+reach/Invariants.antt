-- What is kept while parts, alternatives, members and groups are gone through: what was found of those so far.
-- Each loop has that of its own in a definition of the lemmas, and that all that was told holds.
-- `Rounds` of members says too which rows were gone on from.
use Rattle.std.proofs.Common.{map, drop, ◌*◌, ◌+◌}
use Rattle.ere_tree.specs.Tree.{trees_of}
use Rattle.ere_tree.specs.View.{view}
use Rattle.ere_tree.specs.declared.ere.Ere.{size-Ere}
use Rattle.ere_reach.specs.Memo.{AllHold}
use Rattle.ere_reach.specs.Rows.{AreInside}
use Rattle.ere_reach.proofs.ThroughLemmas.{AreByOne, IsRest}
use Rattle.ere_reach.proofs.GroupLemmas.{ClosesSoFar}
use Rattle.ere_reach.proofs.TakenLemmas.{Taken, TakenIn}
use Rattle.ere_reach.proofs.EnteredLemmas.{Rounds}
use Rattle.ere_reach.proofs.MembersLemmas.{FurtherSoFar}
use Rattle.ere_reach.proofs.RepeatLemmas.{Least}
use Rattle.ere_reach.proofs.reach.+reach.Given as goal

abbrev pub invariant-reach_through-loop-index : goal.invariant-reach_through-loop-index
invariant-reach_through-loop-index l = record {
  inside : AreInside l.site.low l.site.high l.now;
  rest : IsRest l.site l.live (trees_of (map view (drop l.index l.parts))) l.now (trees_of (map view l.parts)) l.rows;
  memo : AllHold l.site l.memo;
}

abbrev pub invariant-reach_by_one-loop-one : goal.invariant-reach_by_one-loop-one
invariant-reach_by_one-loop-one l = record {
  all : AreByOne l.site (trees_of (map view l.choices)) l.one-index l.live l.rows l.all;
  memo : AllHold l.site l.memo;
}

abbrev pub invariant-reach_by_bound_group-loop-from : goal.invariant-reach_by_bound_group-loop-from
invariant-reach_by_bound_group-loop-from l = record {
  found : ClosesSoFar l.site l.group.number (view l.group.inner.now) l.live
      (TakenIn l.row-items l.row-index l.frame.held.now l.from-items l.from-index) l.found;
  memo : AllHold l.site l.memo;
}

abbrev pub invariant-reach_by_bound_group-loop-row : goal.invariant-reach_by_bound_group-loop-row
invariant-reach_by_bound_group-loop-row l = record {
  found : ClosesSoFar l.site l.group.number (view l.group.inner.now) l.live (Taken l.row-items l.row-index) l.found;
  memo : AllHold l.site l.memo;
}

abbrev pub invariant-reach_by_further-loop-place : goal.invariant-reach_by_further-loop-place
invariant-reach_by_further-loop-place l = record {
  all : FurtherSoFar l.site (view l.inner) l.live
      (TakenIn l.row-items l.row-index l.row.held.items l.place-items l.place-index) l.all;
  memo : AllHold l.site l.memo;
}

abbrev pub invariant-reach_by_further-loop-row : goal.invariant-reach_by_further-loop-row
invariant-reach_by_further-loop-row l = record {
  all : FurtherSoFar l.site (view l.inner) l.live (Taken l.row-items l.row-index) l.all;
  memo : AllHold l.site l.memo;
}

abbrev pub invariant-reach_by_members-loop : goal.invariant-reach_by_members-loop
invariant-reach_by_members-loop l = record {
  rounds : Rounds l.site (view l.further.inner.now) l.live l.read.items l.rows l.all l.entered l.counter;
  memo : AllHold l.site l.memo;
}

abbrev pub invariant-reach_by_repeat-loop : goal.invariant-reach_by_repeat-loop
invariant-reach_by_repeat-loop l = record {
  least : Least l.site (view l.repeated.inner.now) l.repeated.least l.repeated.most l.live l.between.items l.counter l.rows l.now;
  memo : AllHold l.site l.memo;
}

-- down the tree, and before it through what goes on by the same tree
abbrev pub decreases-reach : goal.decreases-reach
decreases-reach l = 8 * goal.size-reach l + 1

abbrev pub decreases-reach_by_kind : goal.decreases-reach_by_kind
decreases-reach_by_kind l = 8 * goal.size-reach_by_kind l

abbrev pub decreases-reach_through : goal.decreases-reach_through
decreases-reach_through l = 8 * goal.size-reach_through l + 2

abbrev pub decreases-reach_by_one : goal.decreases-reach_by_one
decreases-reach_by_one l = 8 * goal.size-reach_by_one l + 2

abbrev pub decreases-reach_by_further : goal.decreases-reach_by_further
decreases-reach_by_further l = 8 * goal.size-reach_by_further l + 2

abbrev pub decreases-reach_by_members : goal.decreases-reach_by_members
decreases-reach_by_members l = 8 * size-Ere l.further.inner.now + 3

abbrev pub decreases-reach_by_repeat : goal.decreases-reach_by_repeat
decreases-reach_by_repeat l = 8 * size-Ere l.repeated.inner.now + 4

abbrev pub decreases-told_from : goal.decreases-told_from
decreases-told_from l = 8 * size-Ere l.closing.group.inner.now + 2

abbrev pub decreases-reach_by_bound_group : goal.decreases-reach_by_bound_group
decreases-reach_by_bound_group l = 8 * size-Ere l.group.inner.now + 3

abbrev pub decreases-reach_by_group : goal.decreases-reach_by_group
decreases-reach_by_group l = 8 * size-Ere l.group.inner.now + 4
