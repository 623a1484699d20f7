use Rattle.std.proofs.Common.{◌≡◌, Some, take}
use Rattle.std.specs.List.{slice_get}
use Rattle.ere_reach.specs.Rows.{IsPut, KeepsDone}
use Rattle.ere_reach.specs.declared.row.Row.{Row}
use Rattle.ere_reach.proofs.rows.Rows.put.Given as goal

abbrev pub invariant-loop-place : goal.invariant-loop-place
invariant-loop-place l = record {
  row : (row : Row) × (slice_get l.self.rows.items l.index ≡ Some row) × (row.held.items ≡ l.held);
  put : IsPut l.fn.self l.held (take l.place-index l.places) l.self;
  done : KeepsDone l.fn.self l.self;
}
