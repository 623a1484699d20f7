-- An automaton that follows the threads of one start.
-- Own rule: where only the ends are asked for, a start is followed past each of its matches.
use Rattle.std.specs.Prelude.{◌≡◌, ℕ, ◌==◌, ◌&&◌, Bool, false, List, Option, Some, is_none, is_some}
use Rattle.ere_table.specs.Node.{Node, node_at}
use Rattle.ere_auto.specs.RowTable.{AreSteps}
use Rattle.ere_auto.specs.Seen.{State, StepsTo}
use Rattle.ere_auto.specs.Step.{StandsAt}
use Rattle.ere_auto.specs.declared.thread.Thread.{Thread}

-- the threads are those of the one start p where the slice is at the place n
pub record IsAlone (s : List ℕ) (T : ℕ → Node) (e p n : ℕ) (K : List Thread) : Type 0 where
  pub start : ℕ → ℕ
  pub stands : StandsAt s T e p n (Some p) start K

-- From the first state the next byte, or the slice's end, makes these threads, and it is told whether the stop was met. The second
-- state is that behind a byte, as far as the threads go.
pub record Meets (a b : State) (next : Option ℕ) (stops : Bool) : Type 0 where
  pub threads : List Thread
  pub begun : Option ℕ
  pub met : Option ℕ
  pub step : StepsTo a threads next begun met
  pub stop : stops ≡ is_some met
  pub behind : (byte : ℕ) → next ≡ Some byte
      → (b.threads ≡ threads) × (b.line ≡ (byte == 10)) × (b.searching ≡ (a.searching && is_none met))
  pub nodes : b.nodes ≡ a.nodes
  pub entry : b.entry ≡ a.entry
  pub steps : AreSteps (node_at a.nodes) a.entry b.kept

-- the second state is the first one with no start from there on
pub record EndsStarts (a b : State) : Type 0 where
  pub threads : b.threads ≡ a.threads
  pub line : b.line ≡ a.line
  pub searching : b.searching ≡ false
  pub nodes : b.nodes ≡ a.nodes
  pub entry : b.entry ≡ a.entry
  pub steps : AreSteps (node_at a.nodes) a.entry b.kept
