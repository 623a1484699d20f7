-- What hands and crews keep. Own rule: a hand leaves what it began, and its counts.
use Rattle.std.specs.Prelude.{◌≡◌, ℕ, List, []}
use Rattle.tt_outside.specs.declared.crew.Left.{Left}
use Rattle.tt_outside.specs.declared.seats.Seats.{Seats}
use Rattle.tt_outside.specs.declared.seats.Work.{Work}

-- the tests that a hand began
abbrev pub begun_by : Work → List ℕ
begun_by work = work.begun.items

-- what a hand leaves
abbrev pub work_left : Work → Left
work_left work = record { begun = begun_by work; asked = work.asked; faults = work.faults }

-- what dismissed hands left
abbrev pub left_by : Seats → List Left
left_by seats = seats.left.items

-- how many hands there is room for
abbrev pub seats_of : Seats → ℕ
seats_of seats = seats.seats

-- nothing was done, and there is room for so many tests
abbrev pub IsUnused : ℕ → Work → Type 0
IsUnused room work = (begun_by work ≡ []) × (work.rooms ≡ room) × (work.asked ≡ 0) × (work.faults ≡ 0)
