-- What an automaton has seen, and what it knows of it.
-- Own rule: it is told a slice byte by byte, and has to be right for every slice that begins as it was told.
use Rattle.std.specs.Prelude.{◌≡◌, ℕ, ◌+◌, ◌<◌, ◌≤◌, ◌==◌, ◌&&◌, Bool, true, false, List, [], ◌∷◌, ◌++◌, IsSome, Option, Some, None, length, slice_index, slice_set, is_none}
use Rattle.ere_tree.specs.Tree.{Tree}
use Rattle.ere_tree.specs.Derivation.{is_line_start}
use Rattle.ere_tree.specs.declared.hit.Cap.{Cap}
use Rattle.ere_table.specs.Node.{node_at}
use Rattle.ere_table.specs.Path.{Leads, LeadsAs}
use Rattle.ere_auto.specs.Span.{IsFirstLongest, IsSpan}
use Rattle.ere_auto.specs.Step.{StandsAt, IsStep}
use Rattle.ere_auto.specs.RowTable.{RowTable, AreSteps}
use Rattle.ere_auto.specs.declared.thread.Thread.{Thread}
use Rattle.ere_table.specs.declared.node.EreNode as code

-- what an automaton holds
pub record State : Type 0 where
  pub nodes : List code.EreNode  -- its table
  pub entry : ℕ
  pub begin : ℕ  -- no start before this place counts
  pub at : ℕ  -- how many bytes were shown
  pub best : Option Cap  -- the span so far
  pub starts : List ℕ  -- the starts in their slots
  pub threads : List Thread
  pub line : Bool  -- whether a line starts here
  pub searching : Bool  -- whether no match is known
  pub kept : RowTable  -- the steps that were made so far

-- the automaton is that of this expression
pub record IsFor (a : State) (t : Tree) : Type 0 where
  pub leads : LeadsAs a.nodes a.entry t
  pub steps : AreSteps (node_at a.nodes) a.entry a.kept

-- the start of a span
abbrev pub start_of : Option Cap → Option ℕ
start_of None = None
start_of (Some cap) = Some cap.from

-- the table leads from its entry at h to the stop at j
abbrev pub Matches : State → List ℕ → ℕ → ℕ → Type 0
Matches a s h j = Leads s (node_at a.nodes) a.entry h 0 j

-- of the matches that end before the place n, the span is that of the leftmost, and the longest of it
abbrev pub FoundBefore : (ℕ → ℕ → Type 0) → ℕ → ℕ → Option Cap → Type 0
FoundBefore R begin n None = (h j : ℕ) → begin ≤ h → j < n → R h j → ⊥
FoundBefore R begin n (Some cap) = IsFirstLongest (λ h j. (j < n) × R h j) begin cap.from cap.to

-- The automaton stands in this slice where it was told.
pub record StandsIn (a : State) (s : List ℕ) : Type 0 where
  pub stands : StandsAt s (node_at a.nodes) a.entry a.begin a.at (start_of a.best) (slice_index a.starts) a.threads
  pub found : FoundBefore (Matches a s) a.begin a.at a.best
  pub line : is_line_start s a.at ≡ a.line
  pub sought : a.searching ≡ is_none a.best

-- The automaton of this expression was shown these bytes, from the slice's start on.
pub record HasSeen (a : State) (t : Tree) (front : List ℕ) : Type 0 where
  pub expression : IsFor a t
  pub all : a.at ≡ length front
  pub stands : (rest : List ℕ) → StandsIn a (front ++ rest)

-- The automaton of this expression has the span in the whole slice s, and it ends among the bytes that were shown.
pub record HasFound (a : State) (t : Tree) (s : List ℕ) : Type 0 where
  pub expression : IsFor a t
  pub span : IsSpan s t a.begin a.best
  pub within : (cap : Cap) → a.best ≡ Some cap → cap.to ≤ a.at

-- whatever expression the first is for, the second was shown these bytes for it
abbrev pub SeesAnew : State → State → List ℕ → Type 0
SeesAnew a b front = (t : Tree) → IsFor a t → HasSeen b t front

-- whatever the first was shown, the second was shown, and the byte behind it
abbrev pub SeesNext : State → State → ℕ → Type 0
SeesNext a b byte = (t : Tree) (front : List ℕ) → HasSeen a t front → HasSeen b t (front ++ byte ∷ [])

-- whatever the first was shown, the second has a span in it with the byte behind it, whatever comes then
abbrev pub HasSettled : State → State → ℕ → Type 0
HasSettled a b byte =
    (t : Tree) (front rest : List ℕ) → HasSeen a t front → HasFound b t (front ++ byte ∷ rest) × IsSome b.best

-- that, unless more is asked for
abbrev pub SettlesUnless : Bool → State → State → ℕ → Type 0
SettlesUnless more a b byte = more ≡ false → HasSettled a b byte

-- whatever the first was shown, the second has the span in it
abbrev pub HasEnded : State → State → Type 0
HasEnded a b = (t : Tree) (front : List ℕ) → HasSeen a t front → HasFound b t front

-- STEPS

-- the next byte, or the slice's end, makes these threads of those of the state
abbrev pub StepsTo : State → List Thread → Option ℕ → Option ℕ → Option ℕ → Type 0
StepsTo a threads next begun met =
    IsStep (node_at a.nodes) a.entry a.threads threads a.line a.searching next begun met

abbrev pub starts_behind : List ℕ → Option ℕ → ℕ → List ℕ
starts_behind starts None n = starts
starts_behind starts (Some slot) n = slice_set starts slot n

abbrev pub best_behind : Option Cap → List ℕ → Option ℕ → ℕ → Option Cap
best_behind best starts None n = best
best_behind best starts (Some slot) n = Some (record { from = slice_index starts slot; to = n })

-- The second state is that behind a byte, as far as the threads go.
pub record Turns (a b : State) (byte : ℕ) (begun met : Option ℕ) : Type 0 where
  pub step : StepsTo a b.threads (Some byte) begun met
  pub line : b.line ≡ (byte == 10)
  pub searching : b.searching ≡ (a.searching && is_none met)
  pub steps : AreSteps (node_at a.nodes) a.entry b.kept

-- The second state is that behind a byte.
pub record GoesTo (a b : State) (byte : ℕ) (begun met : Option ℕ) : Type 0 where
  pub turns : Turns a b byte begun met
  pub inside : (slot : ℕ) → begun ≡ Some slot → slot < length a.starts
  pub starts : b.starts ≡ starts_behind a.starts begun a.at
  pub best : b.best ≡ best_behind a.best b.starts met a.at
  pub nodes : b.nodes ≡ a.nodes
  pub entry : b.entry ≡ a.entry
  pub begin : b.begin ≡ a.begin
  pub at : b.at ≡ a.at + 1

-- The second state is that at the slice's end.
pub record EndsIn (a b : State) (begun met : Option ℕ) : Type 0 where
  pub threads : List Thread
  pub step : StepsTo a threads None begun met
  pub inside : (slot : ℕ) → begun ≡ Some slot → slot < length a.starts
  pub starts : b.starts ≡ starts_behind a.starts begun a.at
  pub best : b.best ≡ best_behind a.best b.starts met a.at
  pub nodes : b.nodes ≡ a.nodes
  pub entry : b.entry ≡ a.entry
  pub begin : b.begin ≡ a.begin
  pub at : b.at ≡ a.at
  pub kept : b.kept ≡ a.kept

-- The second state is that behind a byte at which no start counts yet.
pub record Waits (a b : State) (byte : ℕ) : Type 0 where
  pub line : b.line ≡ (byte == 10)
  pub searching : b.searching ≡ true
  pub threads : b.threads ≡ []
  pub at : b.at ≡ a.at + 1
  pub nodes : b.nodes ≡ a.nodes
  pub entry : b.entry ≡ a.entry
  pub begin : b.begin ≡ a.begin
  pub best : b.best ≡ a.best
  pub starts : b.starts ≡ a.starts
  pub kept : b.kept ≡ a.kept

-- The second state is that of no thread behind so many bytes, where a line starts or doesn't.
pub record Fresh (a b : State) (count : ℕ) (starts : Bool) : Type 0 where
  pub line : b.line ≡ starts
  pub searching : b.searching ≡ true
  pub threads : b.threads ≡ []
  pub at : b.at ≡ count
  pub best : b.best ≡ None
  pub nodes : b.nodes ≡ a.nodes
  pub entry : b.entry ≡ a.entry
  pub kept : b.kept ≡ a.kept
