-- The hands of a crew while tests are run.
-- Own rule: what hands did is told for all of them together, since which hand runs a test is left to the workers.
use Rattle.std.specs.Prelude.{ℕ, ◌+◌, ◌≤◌, List, length, map}
use Rattle.std.specs.List.{sum_by}
use Rattle.tt_outside.specs.Gave.{Gave, SameGave}
use Rattle.tt_outside.specs.declared.crew.Left.{Left}
use Rattle.tt_outside.specs.declared.crew.Runner.{Ghosts as OfRunner}
use Rattle.lit_claims.specs.Counted.{count_below}

-- how many tests a round has at most
abbrev pub MAX_ROUND : ℕ
MAX_ROUND = 256

-- the greatest number of a round's first test
abbrev pub MAX_FIRST : ℕ
MAX_FIRST = 100000

-- what a hand leaves
abbrev pub left : {H : Type 0} → OfRunner H → H → Left
left runner hand = record { begun = runner.begun hand; asked = runner.asked hand; faults = runner.faults hand }

-- what each of them leaves
abbrev pub all_left : {H : Type 0} → OfRunner H → List H → List Left
all_left runner hands = map (left runner) hands

-- how many tests they began whose numbers lie below a bound, and how many in all
abbrev pub begun_below : ℕ → List Left → ℕ
begun_below bound hands = sum_by (λ hand. count_below bound hand.begun) hands

abbrev pub begun_by : List Left → ℕ
begun_by hands = sum_by (λ hand. length hand.begun) hands

-- how many requests they answered, and how many faults they counted
abbrev pub asked_of : List Left → ℕ
asked_of hands = sum_by (λ hand. hand.asked) hands

abbrev pub faults_of : List Left → ℕ
faults_of hands = sum_by (λ hand. hand.faults) hands

abbrev pub asked_by : {H : Type 0} → OfRunner H → List H → ℕ
asked_by runner hands = sum_by runner.asked hands

-- how many tests a hand may begin, those that it began among them
abbrev pub room_of : {H : Type 0} → OfRunner H → H → ℕ
room_of runner hand = runner.rooms hand + length (runner.begun hand)

abbrev pub rooms_of : {H : Type 0} → OfRunner H → List H → List ℕ
rooms_of runner hands = map (room_of runner) hands

-- a hand answers as a crew does
abbrev pub IsHandOf : {H : Type 0} → OfRunner H → Gave → H → Type 0
IsHandOf runner gave hand = SameGave (runner.gave hand) gave × runner.ready hand

-- and has room for so many tests
abbrev pub CanRun : {H : Type 0} → OfRunner H → Gave → ℕ → H → Type 0
CanRun runner gave tests hand = (tests ≤ runner.rooms hand) × IsHandOf runner gave hand
