-- What a crew in memory keeps.
-- Own rule: it tells its plan and what its hands left.
use Rattle.std.specs.Prelude.{ℕ, List}
use Rattle.std.specs.Arc.{arc_value}
use Rattle.tt_outside.specs.Seats.{left_by, seats_of}
use Rattle.tt_outside.specs.declared.crew.Left.{Left}
use Rattle.tt_outside.specs.declared.planned.Planned.{Planned}
use Rattle.tt_outside.specs.declared.planned.Shared.{Shared}
use Rattle.tt_outside.specs.declared.planned.Shared.TheVariants.{Own, Many}
use Rattle.tt_outside.specs.declared.mem_crew.MemCrew.{MemCrew}

-- the plan, shared or not
abbrev pub plan_of : Shared → List Planned
plan_of (Own plan) = plan
plan_of (Many shared) = arc_value shared

abbrev pub crew_plan : MemCrew → List Planned
crew_plan crew = plan_of crew.plan

abbrev pub crew_left : MemCrew → List Left
crew_left crew = left_by crew.seats

abbrev pub crew_seats : MemCrew → ℕ
crew_seats crew = seats_of crew.seats
