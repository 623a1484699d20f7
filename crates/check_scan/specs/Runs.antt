-- How a loop over parts or over blocks goes on: what is done, and what the definition says of the rest, is the definition of
-- the whole. Own rule: bindings that were made stay, at a fault and at want of memory.
use Rattle.std.specs.Prelude.{◌≡◌, ℕ, Bool, false, List, [], ◌∷◌, ◌++◌, All, Contains, length, Result, Ok, Err}
use Rattle.tt_base.specs.declared.memory.NoMemory.{NoMemory}
use Rattle.check_group.specs.Changes.{Change, IsPartWay, Variables, changed}
use Rattle.check_group.specs.Lies.{FaultLies, numbers_of}
use Rattle.check_group.specs.Region.{region}
use Rattle.check_group.specs.declared.answer.Matched.{Matched}
use Rattle.check_group.specs.declared.directive.Check.{Check}
use Rattle.check_group.specs.declared.fault.Fault.{Fault}
use Rattle.check_group.specs.declared.fault.FaultKind.TheVariants.{NotFound}
use Rattle.check_scan.specs.Block.{End, block, closed, closed_by}
use Rattle.check_scan.specs.Blocks.{Blocks, blocks_of}
use Rattle.check_scan.specs.Parts.{Part, Positive, came_of, ending, part_of, parts_of}
use Rattle.check_scan.specs.Verdict.{run, scan, up_to_label, verdict}
use Rattle.check_scan.specs.declared.progress.Progress.{Progress}
use Rattle.check_scan.specs.declared.progress.Going.{Going}
use Rattle.check_scan.specs.declared.progress.Going.TheVariants.{On, Over}
use Rattle.check_scan.specs.declared.subject.Subject.{Subject}
use Rattle.check_scan.specs.declared.verdict.Verdict.{Verdict}

-- behind the changes that are done, and the faults that are told behind those before, the rest comes to what the whole does
pub record Runs (whole rest : End) (old now : Progress) : Type 0 where
  pub done : List Change
  pub vars : now.vars ≡ changed old.vars done
  pub faults : now.faults ++ rest.faults ≡ old.faults ++ whole.faults
  pub changes : done ++ rest.changes ≡ whole.changes

-- these faults behind those before, and these variables at exit, are what it comes to
pub record Ends (whole : End) (old new : Progress) : Type 0 where
  pub faults : new.faults ≡ old.faults ++ whole.faults
  pub vars : new.vars ≡ changed old.vars whole.changes

-- a call came to what the whole does, or memory ran out part way
abbrev pub Finishes : End → Progress → Progress → Result (Unit {0}) NoMemory → Type 0
Finishes whole old new (Ok done) = Ends whole old new
Finishes whole old new (Err want) = IsPartWay whole.changes old.vars new.vars

-- a step, whatever follows it: the scan goes on from its place, the whole ends, or memory ran out part way
abbrev pub Turns : ((ℕ → Variables → End) → End) → Progress → Progress → Result Going NoMemory → Type 0
Turns whole old new (Ok On) = (rest : ℕ → Variables → End) → Runs (whole rest) (rest new.place new.vars) old new
Turns whole old new (Ok Over) = (rest : ℕ → Variables → End) → Ends (whole rest) old new
Turns whole old new (Err want) = (rest : ℕ → Variables → End) → IsPartWay (whole rest).changes old.vars new.vars

-- ---- what definitions say of a subject from where the scan has come to

abbrev pub part_at : Subject → List Check → Positive → Progress → (ℕ → Variables → End) → End
part_at subject nots part at = closed subject.text.now at.place at.vars nots (came_of subject.text.now at.vars at.place part)

abbrev pub block_at : Subject → List Part → List Check → Progress → End
block_at subject parts pending at = block subject.text.now subject.always.now parts at.place pending at.vars

abbrev pub run_at : Subject → Bool → List Part → Progress → End
run_at subject forget parts at = run subject.text.now subject.always.now forget parts at.place at.vars

abbrev pub label_at : Subject → Bool → List Check → Check → Progress → (ℕ → Variables → End) → End
label_at subject forget checks label at =
    up_to_label subject.text.now subject.always.now forget checks label at.place at.vars

abbrev pub verdict_at : Subject → Bool → Bool → Blocks → Progress → End
verdict_at subject scope forget blocks at = verdict subject.text.now subject.always.now scope forget blocks at.place at.vars

-- ---- what calls come to

-- a match closes the region before it, or what didn't match is told
abbrev pub Closes : Subject → List Check → Result Matched Fault → Progress → Progress → Result Going NoMemory → Type 0
Closes subject pending outcome old new =
    Turns (closed_by subject.text.now old.place old.vars (subject.always.now ++ pending) outcome) old new

-- a positive part is sought behind NOTs that are pending
abbrev pub Seeks : Subject → List Check → List Check → Progress → Progress → Result Going NoMemory → Type 0
Seeks subject pending part old new = Turns (part_at subject (subject.always.now ++ pending) (part_of part) old) old new

-- the faults of implicit NOTs and of those that are pending are told, in a slice from the place to its end
abbrev pub Excludes : Subject → List ℕ → List Check → Progress → Progress → Type 0
Excludes subject slice pending old new =
    new.faults ≡ old.faults ++ region slice old.place old.vars (subject.always.now ++ pending)

-- a block ends, which is the last one or not; it is run; and the same from its start on
abbrev pub EndsBlock : Subject → Bool → List Check → Progress → Progress → Result (Unit {0}) NoMemory → Type 0
EndsBlock subject last pending old new = Finishes (block_at subject (ending last) pending old) old new

abbrev pub RunsBlock : Subject → Bool → List Check → Progress → Progress → Result (Unit {0}) NoMemory → Type 0
RunsBlock subject last checks old new = Finishes (block_at subject (parts_of last checks) [] old) old new

abbrev pub RunsFrom : Subject → Bool → Bool → List Check → Progress → Progress → Result (Unit {0}) NoMemory → Type 0
RunsFrom subject last forget checks old new = Finishes (run_at subject forget (parts_of last checks) old) old new

-- a label isn't found, and that is told
abbrev pub Misses : Check → Progress → Progress → Type 0
Misses label old new =
    new.faults ≡ old.faults ++ record { directive = label.number; kind = NotFound old.place 0 } ∷ []

-- a block is run up to its label
abbrev pub RunsUpTo : Subject → Bool → List Check → Check → Progress → Progress → Result Going NoMemory → Type 0
RunsUpTo subject forget checks label old new = Turns (label_at subject forget checks label old) old new

-- all blocks are run
abbrev pub RunsAll : Subject → Bool → List Check → Progress → Progress → Result (Unit {0}) NoMemory → Type 0
RunsAll subject scope checks old new = Finishes (verdict_at subject scope false (blocks_of checks) old) old new

-- these faults, and these variables at exit, are what the scan of a subject comes to
abbrev pub AreAmiss : Subject → List Check → Bool → Variables → List Fault → Type 0
AreAmiss subject checks scope vars faults =
    faults ≡ (scan checks subject.always.now scope subject.text.now vars).faults

abbrev pub Tells : Subject → List Check → Bool → Variables → Verdict → Type 0
Tells subject checks scope vars verdict = AreAmiss subject checks scope vars verdict.faults

abbrev pub Binds : Subject → List Check → Bool → Variables → Variables → Type 0
Binds subject checks scope old new =
    new ≡ changed old (scan checks subject.always.now scope subject.text.now old).changes

-- or memory ran out when it had changed a part
abbrev pub BindsPart : Subject → List Check → Bool → Variables → Variables → Type 0
BindsPart subject checks scope old new =
    IsPartWay (scan checks subject.always.now scope subject.text.now old).changes old new

-- faults are those of the directives, implicit NOTs among them, and lie in the text
abbrev pub LieIn : Subject → List Check → List Fault → Type 0
LieIn subject checks faults =
    All (FaultLies (Contains (numbers_of (checks ++ subject.always.now))) (length subject.text.now)) faults
