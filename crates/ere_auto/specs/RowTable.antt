-- Steps that are kept, so that each is made once.
-- Own rule: a row is a list of threads, and a cell tells to which row its threads go by a byte.
use Rattle.std.specs.Prelude.{◌≡◌, ℕ, ◌+◌, ◌-◌, ◌*◌, ◌<◌, ◌≤◌, ◌==◌, ◌&&◌, Bool, false, List, Option, Some, None, length, take, drop, slice_index, slice_index_or, is_none}
use Rattle.ere_table.specs.Node.{Node}
use Rattle.ere_auto.specs.Step.{IsStep}
use Rattle.ere_auto.specs.declared.row.Row.{Row}
use Rattle.ere_auto.specs.declared.thread.Thread.{Thread}

pub record RowTable : Type 0 where
  pub pool : List Thread
  pub rows : List Row
  pub cells : List ℕ

abbrev pub no_row : Row
no_row = record { from = 0; to = 0; line = false; searching = false; over = false; begun = None; met = None }

abbrev pub row_in : List Row → ℕ → Row
row_in rows r = slice_index_or rows r no_row

-- the threads of a row
abbrev pub threads_in : List Thread → Row → List Thread
threads_in pool row = take (row.to - row.from) (drop row.from pool)

abbrev pub threads_of : RowTable → ℕ → List Thread
threads_of R r = threads_in R.pool (row_in R.rows r)

-- the row to which a row goes by a byte, and 0 where that isn't known
abbrev pub cell_of : RowTable → ℕ → ℕ → ℕ
cell_of R r b = slice_index R.cells (r * 256 + b)

-- from the row r the byte leads to the row c
pub record Leads (T : ℕ → Node) (e : ℕ) (R : RowTable) (r b c : ℕ) : Type 0 where
  pub inside : c < length R.rows
  pub step : IsStep T e (threads_of R r) (threads_of R c) (row_in R.rows r).line (row_in R.rows r).searching (Some b)
      (row_in R.rows c).begun (row_in R.rows c).met
  pub line : (row_in R.rows c).line ≡ (b == 10)
  pub searching : (row_in R.rows c).searching ≡ ((row_in R.rows r).searching && is_none (row_in R.rows c).met)

-- what is known is right
pub record AreSteps (T : ℕ → Node) (e : ℕ) (R : RowTable) : Type 0 where
  pub cells : (r b : ℕ) → r < length R.rows → b < 256 → 0 < cell_of R r b → Leads T e R r b (cell_of R r b)

-- the rows of the first are in the second, at their places
pub record Keeps (R S : RowTable) : Type 0 where
  pub longer : length R.rows ≤ length S.rows
  pub rows : (r : ℕ) → r < length R.rows → row_in S.rows r ≡ row_in R.rows r
  pub threads : (r : ℕ) → r < length R.rows → threads_of S r ≡ threads_of R r

-- the row at a place is this one
pub record IsRow (R : RowTable) (r : ℕ) (K : List Thread) (starts seeks : Bool) (first last : Option ℕ) : Type 0 where
  pub inside : r < length R.rows
  pub threads : threads_of R r ≡ K
  pub line : (row_in R.rows r).line ≡ starts
  pub searching : (row_in R.rows r).searching ≡ seeks
  pub begun : (row_in R.rows r).begun ≡ first
  pub met : (row_in R.rows r).met ≡ last

-- a slot, and 0 where there is none
abbrev pub slot_or_zero : Option ℕ → ℕ
slot_or_zero None = 0
slot_or_zero (Some slot) = slot
