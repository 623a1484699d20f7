-- A message that is told to a stream by way of a buffer.
-- Own rule: what is told first waits in the buffer, as far as there is room; after a fault of the stream nothing more is written to it.
use Rattle.std.specs.Prelude.{◌≡◌, ℕ, ◌+◌, ◌<◌, ◌≤◌, Bool, true, false, if◌then◌else◌, List, [], ◌++◌, length, Option, Result, Ok, Err}
use Rattle.std.specs.Io.KnownBytes.{Appends}
use Rattle.tt_outside.specs.Faults.{Rose}
use Rattle.tt_outside.specs.Transfer.{AppendsPart}
use Rattle.tt_outside.specs.declared.sink.Sink.{Ghosts as OfSink}
use Rattle.tt_run.specs.Run.{Stopped, Stream, Taken}
use Rattle.tt_pieces.specs.declared.pen.Pen.{Pen}

-- a stream by what its trait tells of it: what it holds, its count of faults, and the room that it has for certain
pub record Seen : Type 0 where
  pub held : Option (List ℕ)
  pub faults : ℕ
  pub room : ℕ

abbrev pub seen : {S : Type 0} → OfSink S → S → Seen
seen sink stream = record { held = sink.held stream; faults = sink.faults stream; room = sink.room stream }

-- a stream and what waits for it; whether it failed
pub record State : Type 0 where
  pub failed : Bool
  pub waiting : List ℕ
  pub stream : Seen

abbrev pub state : {S : Type 0} → OfSink S → Pen → S → State
state sink pen stream = record { failed = pen.failed; waiting = pen.waiting.items; stream = seen sink stream }

-- since a stream was so, a front of a message was written to it, and the rest waits
pub record IsWaiting (origin : Seen) (waiting : List ℕ) (now : Seen) (message : List ℕ) : Type 0 where
  pub done : List ℕ
  pub whole : done ++ waiting ≡ message
  pub written : Appends origin.held now.held done
  pub calm : now.faults ≡ origin.faults
  pub room : length message ≤ origin.room → origin.room ≤ now.room + length done

-- or it failed on the way, for want of room
pub record IsStopped (origin now : Seen) (message : List ℕ) : Type 0 where
  pub part : AppendsPart origin.held now.held message
  pub rose : Rose origin.faults now.faults
  pub narrow : origin.room < length message

abbrev pub IsToldBy : Bool → Seen → List ℕ → Seen → List ℕ → Type 0
IsToldBy false origin waiting now message = IsWaiting origin waiting now message
IsToldBy true origin waiting now message = IsStopped origin now message

-- since a stream was so, this message was told
abbrev pub IsTold : Seen → State → List ℕ → Type 0
IsTold origin now message = IsToldBy now.failed origin now.waiting now.stream message

-- so much more is told
abbrev pub Tells : List ℕ → State → State → Type 0
Tells text old new = (origin : Seen) (message : List ℕ) → IsTold origin old message → IsTold origin new (message ++ text)

-- a pen tells a stream a text: so much more is told of both as they are than as they were
abbrev pub Puts : {S : Type 0} → OfSink S → List ℕ → Pen → S → Pen → S → Type 0
Puts sink text old stream new now = Tells text (state sink old stream) (state sink new now)

-- what waits with one more piece, where it is kept
abbrev pub with_kept : Bool → List ℕ → List ℕ → List ℕ
with_kept kept waiting piece = if kept then waiting ++ piece else waiting

-- what was told stays told
abbrev pub Flushes : State → State → Type 0
Flushes old new = (origin : Seen) (message : List ℕ) → IsTold origin old message → IsTold origin new message

-- where a piece waited, nothing does
abbrev pub Writes : List ℕ → Bool → Seen → Bool → Seen → Type 0
Writes piece failed old fails new =
    (origin : Seen) (message : List ℕ) → IsToldBy failed origin piece old message → IsToldBy fails origin [] new message

-- nothing waits, and no write failed
abbrev pub IsIdle : Pen → Type 0
IsIdle pen = (pen.waiting.items ≡ []) × (pen.failed ≡ false)

-- ---- a whole message

-- a stream as it was and is
abbrev pub between : Seen → Seen → Stream
between origin now =
    record { old = origin.held; new = now.held; before = origin.faults; now = now.faults; room = origin.room }

-- a message was written whole, or up to a fault
abbrev pub Ends : {E : Type 0} → List ℕ → Stream → Result (Unit {0}) E → Type 0
Ends message stream (Ok done) = Taken message stream
Ends message stream (Err failed) = Stopped message stream

-- so ends the message that was told
abbrev pub Finishes : {E : Type 0} → State → Result (Unit {0}) E → Seen → Type 0
Finishes old result now =
    (origin : Seen) (message : List ℕ) → IsTold origin old message → Ends message (between origin now) result
