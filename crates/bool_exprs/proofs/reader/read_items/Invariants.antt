use Rattle.std.proofs.Common.{length, ◌-◌, ◌≡◌, ◌≤◌, drop}
use Rattle.bool_exprs.specs.Place.{exprs_in, list_from}
use Rattle.bool_exprs.specs.View.{reader_view}
use Rattle.bool_exprs.proofs.reader.read_items.Given as goal

abbrev pub invariant-loop-done : goal.invariant-loop-done
invariant-loop-done l = record {
  within : l.done ≤ length l.text;
  rest : list_from l.xfail (reader_view l.reader) (drop l.done l.text) ≡ exprs_in l.xfail l.text;
}

abbrev pub decreases-loop-done : goal.decreases-loop-done
decreases-loop-done l = length l.text - l.done
