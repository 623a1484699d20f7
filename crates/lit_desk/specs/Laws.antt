-- Laws of desks.
use Rattle.std.specs.Prelude.{◌≡◌, ◌≢◌, ℕ, ◌+◌, ◌≤◌, List, [], ◌++◌, length, map}
use Rattle.std.specs.List.{sum_by}
use Rattle.std.specs.Io.KnownBytes.{Appends}
use Rattle.tt_run.specs.Run.{Taken}
use Rattle.lit_report.specs.Report.{header, part_of, parts_from, running}
use Rattle.lit_desk.specs.Desk.{DeskNow, Kept, PutFrom, Refused, Took, between}
use Rattle.lit_desk.specs.declared.stop.DeskStop.{DeskStop}
use Rattle.lit_desk.specs.declared.stop.DeskStop.TheVariants.{SinkFault, TooMuch, NoMemory}

-- tests that were put on a desk: their parts were written one behind the other, no fault was counted, what they keep was added
-- up, and the stream's room shrank by no more than their parts
abbrev pub PartsAreWritten : Type 0
PartsAreWritten =
    (old new : DeskNow) (place : ℕ) (tests : List Kept) → PutFrom Took old place tests new
    → Taken (parts_from old.detail old.tests place (map (λ test. test.told) tests)) (between old new)
    × (new.kept ≡ old.kept + sum_by (λ test. test.kept) tests)
    × (old.room ≤ new.room + length (parts_from old.detail old.tests place (map (λ test. test.told) tests)))

-- what a refused test leaves of its part: a proper front where the stream failed, and else nothing
abbrev pub LeavesFront : DeskStop → List ℕ → List ℕ → Type 0
LeavesFront SinkFault part front = (rest : List ℕ) × (front ++ rest ≡ part) × (rest ≢ [])
LeavesFront TooMuch part front = front ≡ []
LeavesFront NoMemory part front = front ≡ []

-- where a desk took tests behind the header and refused one more, the report was written as far as those that it took, and
-- behind it what the refused one leaves
abbrev pub StopsInAPart : Type 0
StopsInAPart =
    (start begun last end : DeskNow) (tests : List Kept) (other : Kept) (stop : DeskStop)
    → Appends start.held begun.held (header begun.detail begun.tests) → PutFrom Took begun 0 tests last
    → Refused last (length tests) other stop end
    → (front : List ℕ) × LeavesFront stop (part_of begun.detail begun.tests (length tests) other.told) front
    × Appends start.held end.held (running begun.detail begun.tests (map (λ test. test.told) tests) ++ front)
