-- What a value of the type `Auto` holds.
use Rattle.std.specs.Prelude.{ℕ}
use Rattle.ere_tree.specs.Tree.{Tree}
use Rattle.ere_auto.specs.RowTable.{row_in, threads_of}
use Rattle.ere_auto.specs.RowTableView.{row_table_of}
use Rattle.ere_auto.specs.Seen.{State, IsFor, Turns, GoesTo}
use Rattle.ere_auto.specs.declared.row.Row.{Row}
use Rattle.ere_auto.specs.declared.auto.Auto.{Auto}

abbrev pub state_of : Auto → State
state_of a = record {
  nodes = a.table.nodes.items;
  entry = a.table.entry;
  begin = a.begin;
  at = a.at;
  best = a.best;
  starts = a.starts.items;
  threads = threads_of (row_table_of a.rows) a.row;
  line = (row_in a.rows.rows.items a.row).line;
  searching = (row_in a.rows.rows.items a.row).searching;
  kept = row_table_of a.rows;
}

-- the row at which an automaton stands
abbrev pub row_of : Auto → Row
row_of a = row_in a.rows.rows.items a.row

-- the second is behind a byte, as far as the threads go, and its row tells what the step did besides
abbrev pub TurnsBy : Auto → Auto → ℕ → Type 0
TurnsBy a b byte =
    (t : Tree) → IsFor (state_of a) t → Turns (state_of a) (state_of b) byte (row_of b).begun (row_of b).met

-- the second is behind a byte, and its row tells what the step did besides
abbrev pub GoesBy : Auto → Auto → ℕ → Type 0
GoesBy a b byte =
    (t : Tree) → IsFor (state_of a) t → GoesTo (state_of a) (state_of b) byte (row_of b).begun (row_of b).met
