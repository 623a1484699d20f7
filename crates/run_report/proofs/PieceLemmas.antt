-- Pieces that are written one behind the other.
-- Shown: what is written behind other bytes is written behind both, and so is what stops. A stream is told by three moments, each
-- with what it holds, its count of faults and its room.
use Rattle.std.proofs.Common.{ℕ, ◌+◌, ◌<◌, ◌≤◌, List, [], ◌++◌, length, length-append, append_assoc, append-nil, Option, inl, inr, sym, subst, ◌∙◌, arith}
use Rattle.std.specs.Io.KnownBytes.{Appends}
use Rattle.std.proofs.KnownBytes.{Appends-trans}
use Rattle.tt_outside.specs.Faults.{Rose}
use Rattle.tt_outside.specs.Transfer.{AppendsPart}
use Rattle.tt_outside.specs.declared.sink.Sink.{Ghosts as OfSink}
use Rattle.tt_run.specs.Run.{Stream, Taken}
use Rattle.run_report.specs.Run.{EndWrites, StopsBehind}

-- a stream at a moment
pub record Moment : Type 0 where
  pub held : Option (List ℕ)
  pub faults : ℕ
  pub room : ℕ

abbrev pub moment : {S : Type 0} → OfSink S → S → Moment
moment sink s = record { held = sink.held s; faults = sink.faults s; room = sink.room s }

-- from one moment to another
abbrev pub span : Moment → Moment → Stream
span one other =
    record { old = one.held; new = other.held; before = one.faults; now = other.faults; room = one.room }

-- bytes were written, and the room shrank by no more
abbrev pub Fills : List ℕ → Moment → Moment → Type 0
Fills bytes one other = Taken bytes (span one other) × (one.room ≤ other.room + length bytes)

-- ---- one piece

pub room_left : (before now size : ℕ) → (size ≤ before → before ≤ now + size) → before ≤ now + size
room_left before now size fits = grind arith

pub stops_first : (piece : List ℕ) (old new : Option (List ℕ)) (before now room : ℕ) → AppendsPart old new piece
    → Rose before now → room < length piece
    → StopsBehind [] piece (record { old = old; new = new; before = before; now = now; room = room })
stops_first piece old new before now room (front, rest, whole, some, wrote) rose short =
    record { front = front; rest = rest; whole = whole; some = some; wrote = wrote; rose = rose; short = short }

-- ---- a piece behind another

pub fills_both : (one two : List ℕ) (a b c : Moment) → Fills one a b → Fills two b c → Fills (one ++ two) a c
fills_both one two a b c first second = (
  (Appends-trans a.held b.held c.held one two first.0.0 second.0.0, second.0.1 ∙ first.0.1),
  (let fits = first.1 in let more = second.1 in omega (arith, length-append one two, fits, more)),
)

pub taken_both : (one two : List ℕ) (a b c : Moment) → Fills one a b → Taken two (span b c) → Taken (one ++ two) (span a c)
taken_both one two a b c first second =
    (Appends-trans a.held b.held c.held one two first.0.0 second.0, second.1 ∙ first.0.1)

pub stops_both : (one two piece : List ℕ) (a b c : Moment) → Fills one a b → StopsBehind two piece (span b c)
    → StopsBehind (one ++ two) piece (span a c)
stops_both one two piece a b c first second =
    let fits = first.1 in
    let short = second.short in
    record {
      front = second.front;
      rest = second.rest;
      whole = second.whole;
      some = second.some;
      wrote = subst (Appends a.held c.held) (sym (append_assoc one two second.front))
          (Appends-trans a.held b.held c.held one (two ++ second.front) first.0.0 second.wrote);
      rose = subst (λ n. Rose n c.faults) first.0.1 second.rose;
      short = omega (arith, length-append (one ++ two) piece, length-append one two, length-append two piece, fits, short);
    }

-- and the end of a report
pub end_behind : (one text : List ℕ) (own status : ℕ) (a b c : Moment) (err : Stream) → Fills one a b
    → EndWrites [] text own status (span b c) err → EndWrites one text own status (span a c) err
end_behind one text own status a b c err first (inl (same, taken, rests)) =
    inl (same, taken_both one text a b c first taken, rests)
end_behind one text own status a b c err first (inr (inl (same, stopped, told))) =
    inr (inl (same, subst (λ all. StopsBehind all text (span a c)) (append-nil one) (stops_both one [] text a b c first stopped), told))
end_behind one text own status a b c err first (inr (inr (same, taken, told))) =
    inr (inr (same, subst (λ all. Taken all (span a c)) (append-nil one) (taken_both one [] a b c first taken), told))
