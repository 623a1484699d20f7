-- What a hand did while a test was run.
-- Own rule: it stays on its test, and counts its requests and its faults, as the entries behind earlier ones tell.
use Rattle.std.specs.Prelude.{◌≡◌, ◌≤◌, List}
use Rattle.tt_outside.specs.Gave.{SameGave}
use Rattle.tt_outside.specs.declared.crew.Runner.{Ghosts as OfRunner}
use Rattle.tt_outside.specs.declared.request.Entry.{Entry}
use Rattle.test_course.specs.Bytes.{AreLimited}
use Rattle.test_course.specs.Played.{CountsAsked, CountsFaults}

-- It began no other test, has the same room and gives the same replies, and may be asked again. Its count of faults never fell.
pub record StaysOn {H : Type 0} (runner : OfRunner H) (old new : H) : Type 0 where
  pub begun : runner.begun new ≡ runner.begun old
  pub room : runner.rooms new ≡ runner.rooms old
  pub gave : SameGave (runner.gave new) (runner.gave old)
  pub ready : runner.ready new
  pub later : runner.faults old ≤ runner.faults new

-- Entries behind earlier ones are what it answered: they ask within the limits, its count of requests grew by them, and its count of
-- faults rose where one of them is a fault, and else it stayed.
pub record Answered {H : Type 0} (runner : OfRunner H) (old new : H) (earlier entries : List Entry) : Type 0 where
  pub limited : AreLimited earlier → AreLimited entries
  pub asked : CountsAsked (runner.asked old) (runner.asked new) earlier entries
  pub faults : CountsFaults (runner.faults old) (runner.faults new) earlier entries
