-- What a value of the type `Rows` holds.
use Rattle.std.specs.Prelude.{◌≡◌, ℕ, ◌+◌, ◌<◌, ◌≤◌, Bool, true, List, vec_len, vec_capacity}
use Rattle.ere_table.specs.Node.{Node}
use Rattle.ere_auto.specs.RowTable.{RowTable, AreSteps, IsRow, Leads}
use Rattle.ere_auto.specs.declared.rows.Entered.{Entered}
use Rattle.ere_auto.specs.declared.rows.Rows.{Rows}
use Rattle.ere_auto.specs.declared.step.Note.{Note}
use Rattle.ere_auto.specs.declared.thread.Thread.{Thread}

abbrev pub row_table_of : Rows → RowTable
row_table_of r = record { pool = r.pool.items; rows = r.rows.items; cells = r.cells.items }

-- the row at a place is this one
abbrev pub HasRow : Rows → ℕ → List Thread → Bool → Bool → Note → Type 0
HasRow rows r K starts seeks note = IsRow (row_table_of rows) r K starts seeks note.begun note.met

-- if what the first knows is right, what the second knows is
abbrev pub StaysRight : Rows → Rows → Type 0
StaysRight R S = (T : ℕ → Node) (e : ℕ) → AreSteps T e (row_table_of R) → AreSteps T e (row_table_of S)

-- that, if the row r leads to the row c by the byte b
abbrev pub Learns : Rows → Rows → ℕ → ℕ → ℕ → Type 0
Learns R S r b c =
    (T : ℕ → Node) (e : ℕ) → AreSteps T e (row_table_of R) → Leads T e (row_table_of R) r b c → AreSteps T e (row_table_of S)

-- that, if the row r leads to the one that was entered, or the rows were dropped
abbrev pub LearnsKept : Rows → Rows → ℕ → ℕ → Entered → Type 0
LearnsKept R S r b entered =
    (T : ℕ → Node) (e : ℕ) → AreSteps T e (row_table_of R)
    → (entered.kept ≡ true → Leads T e (row_table_of R) r b entered.row) → AreSteps T e (row_table_of S)

-- there is memory for a row of so many threads
pub record HasRoom (r : Rows) (count : ℕ) : Type 0 where
  pub rows : vec_len r.rows < vec_capacity r.rows
  pub cells : vec_len r.cells + 256 ≤ vec_capacity r.cells
  pub pool : vec_len r.pool + count ≤ vec_capacity r.pool
