-- What a run of a tool does to the objects that it is given.
-- Own rule: an answer is written to out and then to err. A fault of out is told on err; after a fault of a stream
-- nothing more is written to it. A fault is told only where the object's count of faults rose, and else the count stays.
use Rattle.std.specs.Prelude.{◌≡◌, ◌≢◌, ◌⊎◌, ⊤, ℕ, ◌+◌, ◌<◌, ◌≤◌, List, length, Option, Ok, Err}
use Rattle.std.specs.Io.KnownBytes.{Appends, Consumes, IsAtEnd}
use Rattle.tt_outside.specs.Faults.{Rose}
use Rattle.tt_outside.specs.Gave.{Gave}
use Rattle.tt_outside.specs.GivesFile.{GivesFile}
use Rattle.tt_outside.specs.Transfer.{AppendsPart, TakesCount}
use Rattle.tt_outside.specs.declared.crew.Crew.{Ghosts as OfCrew}
use Rattle.tt_outside.specs.declared.crew.Left.{Left}
use Rattle.tt_outside.specs.declared.files.Files.{Ghosts as OfFiles}
use Rattle.tt_outside.specs.declared.files.FilesFault.TheVariants.{Missing as NoFile, TooLarge as TooLong}
use Rattle.tt_outside.specs.declared.sink.Sink.{Ghosts as OfSink}
use Rattle.tt_outside.specs.declared.source.Source.{Ghosts as OfSource}
use Rattle.tt_run.specs.Frame.{cannot_write, out_of_memory}
use Rattle.tt_run.specs.declared.answer.Answer.{Answer}
use Rattle.tt_run.specs.declared.reading.Reading.{Reading}
use Rattle.tt_run.specs.declared.reading.Reading.TheVariants as reading

-- ---- objects as a run found and left them, by what a trait tells of them

-- a stream: what it held and holds, its count of faults, and the room it had for certain
pub record Stream : Type 0 where
  pub old : Option (List ℕ)
  pub new : Option (List ℕ)
  pub before : ℕ
  pub now : ℕ
  pub room : ℕ

abbrev pub stream_of : {S : Type 0} → OfSink S → S → S → Stream
stream_of sink old new = record {
  old = sink.held old;
  new = sink.held new;
  before = sink.faults old;
  now = sink.faults new;
  room = sink.room old;
}

-- files: whether nobody touched them, the bytes under each name, whether no call fails for certain, and the count of faults
pub record Files : Type 1 where
  pub untouched : Type 0
  pub held : Option (List ℕ → Option (List ℕ))
  pub steady : Type 0
  pub before : ℕ
  pub now : ℕ

abbrev pub files_of : {F : Type 0} → OfFiles F → F → F → Files
files_of files old new = record {
  untouched = new ≡ old;
  held = files.held old;
  steady = files.steady old;
  before = files.faults old;
  now = files.faults new;
}

-- a source: whether nobody touched it, what it had and has left, whether no read fails for certain, and its count of faults
pub record Source : Type 1 where
  pub untouched : Type 0
  pub old : Option (List ℕ)
  pub new : Option (List ℕ)
  pub steady : Type 0
  pub before : ℕ
  pub now : ℕ

abbrev pub source_of : {S : Type 0} → OfSource S → S → S → Source
source_of source old new = record {
  untouched = new ≡ old;
  old = source.left old;
  new = source.left new;
  steady = source.steady old;
  before = source.faults old;
  now = source.faults new;
}

-- a crew: the replies that its hands may give, and what dismissed hands left before and after
pub record Crew : Type 1 where
  pub gave : Gave
  pub old : List Left
  pub new : List Left

abbrev pub crew_of : {C H : Type 0} → OfCrew C H → C → C → Crew
crew_of crew old new = record { gave = crew.gave old; old = crew.hands old; new = crew.hands new }

-- ---- reading

-- reading the file of a name gave this
abbrev pub FileRead : Files → ℕ → List ℕ → Reading → Type 0
FileRead f limit name (reading.Whole bytes) =
    GivesFile f.held name limit (Ok bytes) × (length bytes ≤ limit) × (f.now ≡ f.before)
FileRead f limit name reading.Missing = GivesFile f.held name limit (Err NoFile) × (f.now ≡ f.before)
FileRead f limit name reading.TooLarge =
    (size : ℕ) × GivesFile f.held name limit (Err (TooLong size)) × (limit < size) × (f.now ≡ f.before)
FileRead f limit name reading.Failed = Rose f.before f.now × (f.steady → ⊥)

-- reading a source to its end gave this: all that it had left, one byte more than the limit, or a fault
abbrev pub SourceRead : Source → ℕ → Reading → Type 0
SourceRead s limit (reading.Whole bytes) =
    Consumes s.old s.new bytes × IsAtEnd s.new × (length bytes ≤ limit) × (s.now ≡ s.before)
SourceRead s limit reading.TooLarge = TakesCount s.old s.new (limit + 1) × (s.now ≡ s.before)
SourceRead s limit reading.Failed = Rose s.before s.now × (s.steady → ⊥)
SourceRead s limit reading.Missing = ⊥

-- what was read whole is within the limit
abbrev pub IsShort : ℕ → Reading → Type 0
IsShort limit (reading.Whole bytes) = length bytes ≤ limit
IsShort limit reading.Missing = ⊤
IsShort limit reading.TooLarge = ⊤
IsShort limit reading.Failed = ⊤

-- an object counted a fault from one moment to another
abbrev pub Failed : {S : Type 0} → (S → ℕ) → S → S → Type 0
Failed faults old new = Rose (faults old) (faults new)

-- files and a source that nobody touched
abbrev pub FilesRest : Files → Type 0
FilesRest f = (f.now ≡ f.before) × f.untouched

abbrev pub SourceRests : Source → Type 0
SourceRests s = (s.new ≡ s.old) × (s.now ≡ s.before) × s.untouched

-- what is handed on to the next call is steady where it was
abbrev pub StaysSteady : {S : Type 0} → (S → Type 0) → S → S → Type 0
StaysSteady steady old new = steady old → steady new

-- files behind a run hold what they held, and are steady where they were
abbrev pub IsKept : {F : Type 0} → OfFiles F → F → F → Type 0
IsKept of old new = (of.held new ≡ of.held old) × StaysSteady of.steady old new

-- ---- writing

-- the bytes were written, and no fault was counted
abbrev pub Taken : List ℕ → Stream → Type 0
Taken bytes s = Appends s.old s.new bytes × (s.now ≡ s.before)

-- a proper front of the bytes was written, and the stream counted a fault, for want of room
abbrev pub Stopped : List ℕ → Stream → Type 0
Stopped bytes s = AppendsPart s.old s.new bytes × Rose s.before s.now × (s.room < length bytes)

-- the bytes were written: whole, or up to a fault
abbrev pub Told : List ℕ → Stream → Type 0
Told bytes s = Taken bytes s ⊎ Stopped bytes s

-- a message was told and the status answered, or 3 at a fault of the stream
abbrev pub Answered : List ℕ → ℕ → ℕ → Stream → Type 0
Answered message status result s =
    ((result ≡ status) × Taken message s) ⊎ ((result ≡ 3) × Stopped message s)

-- an answer was written: out whole and then err, or out up to a fault, which is told on err
abbrev pub Written : List ℕ → Answer → ℕ → Stream → Stream → Type 0
Written fault answer result out err =
    (Taken answer.out out × Answered answer.err answer.status result err)
    ⊎ ((result ≡ 3) × Stopped answer.out out × Told fault err)

-- ---- a run of a tool

-- the tool of a name answered: but for want of memory, an answer that is due was written
abbrev pub Answers : List ℕ → (Answer → Type 0) → ℕ → Stream → Stream → Type 0
Answers name IsDue status out err =
    status ≢ 4 → (answer : Answer) × IsDue answer × Written (cannot_write name) answer status out err

-- it told the want of memory, and wrote nothing else
abbrev pub LacksMemory : List ℕ → ℕ → Stream → Stream → Type 0
LacksMemory name status out err = status ≡ 4 → (out.new ≡ out.old) × Told (out_of_memory name) err
