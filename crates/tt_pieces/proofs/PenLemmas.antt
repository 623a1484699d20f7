-- What is told by way of a buffer.
-- Shown: what waits and is written stays told (`wrote`), or the message stops there (`stopped`); one text told behind another is both
-- (`tells_then`). Idea: a message is what was written and what waits. The hard one is `stopped`.
use Rattle.std.proofs.Common.{◌≡◌, ℕ, ◌+◌, ◌<◌, ◌≤◌, Bool, true, false, List, [], ◌∷◌, ◌++◌, length, append_assoc, append-nil, length-append, arith, refl, sym, ap, ◌∙◌, subst, Option, Some}
use Rattle.std.proofs.KnownBytes.{Appends-nil, Appends-trans}
use Rattle.std.specs.Io.KnownBytes.{Appends}
use Rattle.tt_outside.specs.Faults.{Rose}
use Rattle.tt_outside.specs.Transfer.{AppendsPart}
use Rattle.tt_outside.specs.declared.sink.Sink.{Ghosts as OfSink}
use Rattle.tt_pieces.specs.Telling.{IsIdle, IsStopped, IsTold, IsToldBy, IsWaiting, Seen, State, Tells, seen, state}
use Rattle.tt_pieces.specs.declared.pen.Pen.{Pen}

-- a list before another is nothing where both are
left_is_nothing : (left rest : List ℕ) → left ++ rest ≡ [] → left ≡ []
left_is_nothing [] rest none = refl
left_is_nothing (byte ∷ left) rest none = cc

-- what stopped is a front of a longer message
stopped_more : (origin now : Seen) (message piece : List ℕ) → IsStopped origin now message → IsStopped origin now (message ++ piece)
stopped_more origin now message piece told =
    let part = told.part in
    record {
      part = (
        part.0,
        part.1 ++ piece,
        sym (append_assoc part.0 part.1 piece) ∙ ap (λ l. l ++ piece) part.2,
        λ none. part.3 (left_is_nothing part.1 piece none),
        part.4,
      );
      rose = told.rose;
      narrow = omega (arith, told.narrow, length-append message piece);
    }

waits_more : (origin now : Seen) (waiting message piece : List ℕ) → IsWaiting origin waiting now message
    → IsWaiting origin (waiting ++ piece) now (message ++ piece)
waits_more origin now waiting message piece told = record {
  done = told.done;
  whole = sym (append_assoc told.done waiting piece) ∙ ap (λ l. l ++ piece) told.whole;
  written = told.written;
  calm = told.calm;
  room = λ fits. told.room (omega (arith, fits, length-append message piece));
}

-- a piece that waits is told
pub told_more : (failed : Bool) (origin now : Seen) (waiting message piece : List ℕ) → IsToldBy failed origin waiting now message
    → IsToldBy failed origin (waiting ++ piece) now (message ++ piece)
told_more false origin now waiting message piece told = waits_more origin now waiting message piece told
told_more true origin now waiting message piece told = stopped_more origin now message piece told

-- what doesn't fit is longer than the room
past_room : (room size : ℕ) → (size ≤ room → ⊥) → room < size
past_room room size passes = omega (arith, passes)

-- nothing is told yet
pub begins : (now : Seen) → IsWaiting now [] now []
begins now = record { done = []; whole = refl; written = Appends-nil now.held; calm = refl; room = λ fits. omega arith }

module _ (origin old new : Seen) (piece message : List ℕ) (told : IsWaiting origin piece old message) where
  whole_length : length message ≡ length told.done + length piece
  whole_length = sym (ap length told.whole) ∙ length-append told.done piece

  -- what waited is written
  pub wrote : Appends old.held new.held piece → new.faults ≡ old.faults
      → (length piece ≤ old.room → old.room ≤ new.room + length piece) → IsWaiting origin [] new message
  wrote appended calm roomy = record {
    done = told.done ++ piece;
    whole = append-nil (told.done ++ piece) ∙ told.whole;
    written = Appends-trans origin.held old.held new.held told.done piece told.written appended;
    calm = calm ∙ told.calm;
    room = λ fits. let before = told.room fits in
        let now = roomy (omega (arith, before, fits, whole_length)) in
        omega (arith, before, now, length-append told.done piece);
  }

  -- or a front of it
  pub stopped : AppendsPart old.held new.held piece → Rose old.faults new.faults → (length piece ≤ old.room → ⊥)
      → IsStopped origin new message
  stopped (front, left, both, some, appended) rose full = record {
    part = (
      told.done ++ front,
      left,
      append_assoc told.done front left ∙ ap (λ l. told.done ++ l) both ∙ told.whole,
      some,
      Appends-trans origin.held old.held new.held told.done front told.written appended,
    );
    rose = subst (λ before. Rose before new.faults) told.calm rose;
    narrow = omega (
      arith,
      λ (fits : length message ≤ origin.room). let before = told.room fits in
          full (omega (arith, before, fits, whole_length)),
    );
  }

-- ---- texts one behind the other

pub tells_nothing : (now : State) → Tells [] now now
tells_nothing now origin message told = subst (IsTold origin now) (sym (append-nil message)) told

pub tells_then : (old middle new : State) (text more : List ℕ) → Tells text old middle → Tells more middle new → Tells (text ++ more) old new
tells_then old middle new text more first second origin message told =
    subst (IsTold origin new) (append_assoc message text more) (second origin (message ++ text) (first origin message told))

pub tells_same : (old new : State) (text same : List ℕ) → text ≡ same → Tells text old new → Tells same old new
tells_same old new text same is told = subst (λ t. Tells t old new) is told

-- ---- a whole message

-- with an idle pen nothing is told yet
pub begun : {S : Type 0} (sink : OfSink S) (pen : Pen) (stream : S) → IsIdle pen → IsTold (seen sink stream) (state sink pen stream) []
begun sink pen stream idle =
    let now = seen sink stream in
    subst (λ f. IsToldBy f now pen.waiting.items now []) (sym idle.1)
    (subst (λ w. IsToldBy false now w now []) (sym idle.0) (begins now))

-- so a text that is told with one is the message
pub told_by : {S : Type 0} (sink : OfSink S) (pen : Pen) (stream : S) (new : State) (text : List ℕ) → IsIdle pen
    → Tells text (state sink pen stream) new → IsTold (seen sink stream) new text
told_by sink pen stream new text idle tells = tells (seen sink stream) [] (begun sink pen stream idle)

-- what was written to empty memory is what it holds
pub gathered_whole : (old new : Option (List ℕ)) (held text : List ℕ) → old ≡ Some [] → Some held ≡ new → Appends old new text → held ≡ text
gathered_whole old new held text empty full wrote =
    let whole : Appends (Some []) (Some held) text =
    subst (λ o. Appends o (Some held) text) empty (subst (λ n. Appends old n text) (sym full) wrote) in whole
