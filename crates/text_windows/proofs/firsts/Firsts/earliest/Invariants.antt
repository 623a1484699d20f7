use Rattle.std.proofs.Common.{◌≡◌, ℕ, List, length}
use Rattle.tt_base.specs.Occurrence.{StandsNowhere}
use Rattle.text_windows.specs.Windows.{ArePlaces}
use Rattle.text_windows.proofs.firsts.Firsts.earliest.Given as goal

abbrev pub invariant-loop-at : goal.invariant-loop-at
invariant-loop-at l = record {
  same : l.self-inside ≡ l.initial.self-inside;
  before : (text : List ℕ) → ArePlaces l.initial.self-inside.places.items text → StandsNowhere text l.needle (length text) 0 l.earliest;
}
