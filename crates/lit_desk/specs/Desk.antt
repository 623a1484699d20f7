-- A desk that tests are put on, one by one.
-- Own rule: the part of a test is written as it is taken. A refused test leaves a proper front of its part, and that only at a
-- fault of the stream; the bytes that are kept have a limit.
use Rattle.std.specs.Prelude.{◌≡◌, ◌≢◌, ℕ, ◌+◌, ◌<◌, ◌≤◌, List, [], ◌∷◌, length, Option}
use Rattle.tt_outside.specs.declared.sink.Sink.{Ghosts as OfSink}
use Rattle.tt_run.specs.Run.{Stopped, Stream, Taken}
use Rattle.lit_words.specs.declared.asked.Detail.{Detail}
use Rattle.lit_report.specs.Report.{TestReport, part_of}
use Rattle.lit_desk.specs.declared.desk.LitDesk.{LitDesk}
use Rattle.lit_desk.specs.declared.stop.DeskStop.{DeskStop}
use Rattle.lit_desk.specs.declared.stop.DeskStop.TheVariants.{SinkFault, TooMuch, NoMemory}

-- how many bytes the tests of a run keep at most
abbrev pub MAX_KEPT : ℕ
MAX_KEPT = 2147483648

-- what is put on a desk: what the report tells of a test, and how many bytes it keeps
pub record Kept : Type 0 where
  pub kept : ℕ
  pub told : TestReport

abbrev pub keeping : ℕ → TestReport → Kept
keeping kept told = record { kept = kept; told = told }

-- a desk: what it shows of how many tests, how many bytes are kept, and its stream, with what that held, its count of
-- faults, and the room that it had for certain
pub record DeskNow : Type 0 where
  pub detail : Detail
  pub tests : ℕ
  pub kept : ℕ
  pub held : Option (List ℕ)
  pub faults : ℕ
  pub room : ℕ

abbrev pub desk : {O : Type 0} → OfSink O → LitDesk O → DeskNow
desk sink d = record {
  detail = d.detail;
  tests = d.tests;
  kept = d.kept;
  held = sink.held d.out.now;
  faults = sink.faults d.out.now;
  room = sink.room d.out.now;
}

-- its stream, from one moment to another
abbrev pub between : DeskNow → DeskNow → Stream
between old new =
    record { old = old.held; new = new.held; before = old.faults; now = new.faults; room = old.room }

-- what a desk writes of the test of a place
abbrev pub part_on : DeskNow → ℕ → Kept → List ℕ
part_on desk place test = part_of desk.detail desk.tests place test.told

-- a desk took the test of a place
pub record Took (old : DeskNow) (place : ℕ) (test : Kept) (new : DeskNow) : Type 0 where
  pub detail : new.detail ≡ old.detail
  pub tests : new.tests ≡ old.tests
  pub wrote : Taken (part_on old place test) (between old new)
  pub room : old.room ≤ new.room + length (part_on old place test)
  pub kept : new.kept ≡ old.kept + test.kept
  pub most : new.kept ≤ MAX_KEPT

-- its stream was left alone
abbrev pub Rests : DeskNow → DeskNow → Type 0
Rests old new = (new.held ≡ old.held) × (new.faults ≡ old.faults)

-- why it did not: the stream failed in the midst of its part, or too many bytes would be kept
abbrev pub StopCause : DeskNow → ℕ → Kept → DeskStop → DeskNow → Type 0
StopCause old place test SinkFault new = Stopped (part_on old place test) (between old new)
StopCause old place test TooMuch new = (MAX_KEPT < old.kept + test.kept) × Rests old new
StopCause old place test NoMemory new = Rests old new

-- a desk refused the test of a place
pub record Refused (old : DeskNow) (place : ℕ) (test : Kept) (stop : DeskStop) (new : DeskNow) : Type 0 where
  pub detail : new.detail ≡ old.detail
  pub tests : new.tests ≡ old.tests
  pub kept : new.kept ≡ old.kept
  pub cause : StopCause old place test stop new

-- tests are put on a desk one by one, from a place on
abbrev pub PutFrom : {D X : Type 0} → (D → ℕ → X → D → Type 0) → D → ℕ → List X → D → Type 0
PutFrom Takes old place [] new = old ≡ new
PutFrom {D} Takes old place (test ∷ tests) new =
    (next : D) × Takes old place test next × PutFrom Takes next (place + 1) tests new
