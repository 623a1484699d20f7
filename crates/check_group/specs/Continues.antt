-- How a loop over matches goes on: what is done, and what the definition says of the rest, is the definition of the whole.
-- Own rule: bindings that were made stay, at a fault and at want of memory.
use Rattle.std.specs.Prelude.{◌≡◌, ◌≤◌, ℕ, List, ◌++◌, Result}
use Rattle.check_group.specs.Changes.{Change, IsPartWay, Variables, changed}
use Rattle.check_group.specs.Matches.{Came}
use Rattle.check_group.specs.declared.answer.Matched.{Matched}
use Rattle.check_group.specs.declared.fault.Fault.{Fault}

-- behind the changes that are done, the rest comes to what the whole comes to
pub record Continues (whole rest : Came) (old now : Variables) : Type 0 where
  pub done : List Change
  pub vars : now ≡ changed old done
  pub outcome : rest.outcome ≡ whole.outcome
  pub changes : done ++ rest.changes ≡ whole.changes

-- this outcome, and these variables at exit, are what it comes to
pub record Comes (whole : Came) (old : Variables) (answer : Result Matched Fault) (new : Variables) : Type 0 where
  pub outcome : answer ≡ whole.outcome
  pub vars : new ≡ changed old whole.changes

-- a call came to what follows from the variables at its start
abbrev pub ComesFrom : (Variables → Came) → Variables → Variables → Result Matched Fault → Type 0
ComesFrom whole old new answer = Comes (whole old) old answer new

-- or memory ran out when it had changed a part
abbrev pub StopsFrom : (Variables → Came) → Variables → Variables → Type 0
StopsFrom whole old new = IsPartWay (whole old).changes old new

-- a part lies between two offsets
abbrev pub LiesIn : ℕ → ℕ → Matched → Type 0
LiesIn from to m = (from ≤ m.from) × (m.from ≤ to) × (m.to ≤ to)
