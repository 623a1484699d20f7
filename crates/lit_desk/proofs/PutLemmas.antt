-- Tests that are put on a desk, one by one: their parts stand behind one another, and what they keep is added up.
-- By induction over the tests; what the desk shows, and of how many tests, stays from one to the next.
-- `stops_in_a_part` is the hard one: what the refused test leaves is a front of its part, by the cause of the stop.
use Rattle.std.proofs.Common.{◌≡◌, ℕ, ◌+◌, ◌≤◌, List, [], ◌∷◌, ◌++◌, length, length-append, map, refl, sym, ap, ◌∙◌, subst, arith}
use Rattle.std.specs.List.{sum_by}
use Rattle.std.proofs.lemmas.List.Sums.{sum_by-cons}
use Rattle.std.specs.Io.KnownBytes.{Appends}
use Rattle.std.proofs.KnownBytes.{Appends-nil, Appends-trans}
use Rattle.lit_words.specs.declared.asked.Detail.{Detail}
use Rattle.lit_report.specs.Report.{header, part_of, parts_from, running}
use Rattle.lit_desk.specs.Desk.{DeskNow, Kept, PutFrom, Refused, StopCause, Took}
use Rattle.lit_desk.specs.Laws.{LeavesFront, PartsAreWritten, StopsInAPart}
use Rattle.lit_desk.specs.declared.stop.DeskStop.{DeskStop}
use Rattle.lit_desk.specs.declared.stop.DeskStop.TheVariants.{SinkFault, TooMuch, NoMemory}

abbrev parts : Detail → ℕ → ℕ → List Kept → List ℕ
parts detail tests place puts = parts_from detail tests place (map (λ put. put.told) puts)

-- room that shrinks by no more than what is written
pub room_left : (before now size : ℕ) → (size ≤ before → before ≤ now + size) → before ≤ now + size
room_left before now size fits = grind arith

-- room shrinks by what is written in all
rooms_add : (first between last : ℕ) (one more : List ℕ) → first ≤ between + length one → between ≤ last + length more
    → first ≤ last + length (one ++ more)
rooms_add first between last one more before behind = omega (arith, length-append one more, before, behind)

pub parts_are_written : PartsAreWritten
parts_are_written old new place [] put = (
  (subst (λ (d : DeskNow). Appends old.held d.held []) put (Appends-nil old.held), ap (λ (d : DeskNow). d.faults) (sym put)),
  ap (λ (d : DeskNow). d.kept) (sym put) ∙ omega arith,
  subst (λ (d : DeskNow). old.room ≤ d.room + 0) put (omega arith),
)
parts_are_written old new place (test ∷ tests) (next, took, put) =
    let ((wrote, calm), kept, room) = parts_are_written next new (place + 1) tests put in
    let same : Appends next.held new.held (parts old.detail old.tests (place + 1) tests) =
    subst (λ n. Appends next.held new.held (parts old.detail n (place + 1) tests)) took.tests
    (subst (λ d. Appends next.held new.held (parts d next.tests (place + 1) tests)) took.detail wrote) in
    let rest : next.room ≤ new.room + length (parts old.detail old.tests (place + 1) tests) =
    subst (λ n. next.room ≤ new.room + length (parts old.detail n (place + 1) tests)) took.tests
    (subst (λ d. next.room ≤ new.room + length (parts d next.tests (place + 1) tests)) took.detail room) in (
      (Appends-trans old.held next.held new.held _ _ took.wrote.0 same, calm ∙ took.wrote.1),
      (let sum = sum_by-cons (λ (t : Kept). t.kept) test tests in let one = took.kept in omega (arith, kept, sum, one)),
      rooms_add old.room next.room new.room (part_of old.detail old.tests place test.told) _ took.room rest,
    )

-- what a desk shows, and of how many tests, stays
pub stays : (old new : DeskNow) (place : ℕ) (tests : List Kept) → PutFrom Took old place tests new
    → (new.detail ≡ old.detail) × (new.tests ≡ old.tests)
stays old new place [] put = (ap (λ (d : DeskNow). d.detail) (sym put), ap (λ (d : DeskNow). d.tests) (sym put))
stays old new place (test ∷ tests) (next, took, put) =
    let rest = stays next new (place + 1) tests put in
    (rest.0 ∙ took.detail, rest.1 ∙ took.tests)

-- what a refused test leaves
leaves : (last end : DeskNow) (place : ℕ) (other : Kept) (stop : DeskStop) → StopCause last place other stop end
    → (front : List ℕ) × LeavesFront stop (part_of last.detail last.tests place other.told) front
    × Appends last.held end.held front
leaves last end place other SinkFault cause =
    let (front, rest, whole, some, wrote) = cause.0 in
    (front, (rest, whole, some), wrote)
leaves last end place other TooMuch cause =
    ([], refl, subst (λ held. Appends last.held held []) (sym cause.1.0) (Appends-nil last.held))
leaves last end place other NoMemory cause =
    ([], refl, subst (λ held. Appends last.held held []) (sym cause.0) (Appends-nil last.held))

pub stops_in_a_part : StopsInAPart
stops_in_a_part start begun last end tests other stop headed put refused =
    let (detail, count) = stays begun last 0 tests put in
    let ((wrote, calm), kept, room) = parts_are_written begun last 0 tests put in
    let (front, left, more) = leaves last end (length tests) other stop refused.cause in (
      front,
      subst (λ n. LeavesFront stop (part_of begun.detail n (length tests) other.told) front) count
          (subst (λ d. LeavesFront stop (part_of d last.tests (length tests) other.told) front) detail left),
      Appends-trans start.held last.held end.held (running begun.detail begun.tests (map (λ test. test.told) tests)) front
          (Appends-trans start.held begun.held last.held (header begun.detail begun.tests)
          (parts begun.detail begun.tests 0 tests) headed wrote) more,
    )
