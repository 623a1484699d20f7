-- One block.
-- After LLVM Command Guide, FileCheck: directives match in order, NOTs between the matches round them. Own rule: the first
-- fault of a positive directive, or the faults of a region, end the block.
use Rattle.std.specs.Prelude.{ℕ, List, [], ◌∷◌, ◌++◌, take, Result, Ok, Err}
use Rattle.check_group.specs.Changes.{Change, Variables, changed}
use Rattle.check_group.specs.Matches.{Came}
use Rattle.check_group.specs.Region.{region}
use Rattle.check_group.specs.declared.answer.Matched.{Matched}
use Rattle.check_group.specs.declared.directive.Check.{Check}
use Rattle.check_group.specs.declared.fault.Fault.{Fault}
use Rattle.check_scan.specs.Parts.{Part, came_of, finish, negative, positive}

-- what is found amiss, and what it changed
pub record End : Type 0 where
  pub faults : List Fault
  pub changes : List Change

abbrev pub at_end : End
at_end = record { faults = []; changes = [] }

abbrev pub after : List Change → End → End
after changes end = record { faults = end.faults; changes = changes ++ end.changes }

-- without a fault it goes on
abbrev pub unless : List Fault → End → End
unless [] rest = rest
unless (fault ∷ faults) rest = record { faults = fault ∷ faults; changes = [] }

-- a match closes the region that begins at the place, with the variables behind the match; then what follows goes on from
-- its end
abbrev pub closed_by : List ℕ → ℕ → Variables → List Check → Result Matched Fault → (ℕ → Variables → End) → End
closed_by text place vars nots (Err fault) rest = record { faults = fault ∷ []; changes = [] }
closed_by text place vars nots (Ok m) rest = unless (region (take m.from text) place vars nots) (rest m.to vars)

abbrev pub closed : List ℕ → ℕ → Variables → List Check → Came → (ℕ → Variables → End) → End
closed text place vars nots came rest =
    after came.changes (closed_by text place (changed vars came.changes) nots came.outcome rest)

-- a block's parts from a place on, behind NOTs that are pending; `always` are the implicit NOTs of each region
unfoldable pub block : List ℕ → List Check → List Part → ℕ → List Check → Variables → End
block text always [] place pending vars = at_end
block text always (negative check ∷ parts) place pending vars =
    block text always parts place (pending ++ check ∷ []) vars
block text always (positive part ∷ parts) place pending vars =
    closed text place vars (always ++ pending) (came_of text vars place part)
    (λ place vars. block text always parts place [] vars)
block text always (finish ∷ parts) place pending vars =
    unless (region text place vars (always ++ pending)) (block text always parts place [] vars)
