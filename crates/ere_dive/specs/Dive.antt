-- What a state leads to: whatever does its tasks, from its place on to the span's end, makes a match of the whole span.
-- Own rule: states are gone through depth first, so of each it is known that it leads there, and not that no other does.
use Rattle.std.specs.Prelude.{◌≡◌, ◌≢◌, ◌⊎◌, ◌+◌, ◌<◌, ◌≤◌, ℕ, Bool, Option, Some, List, [], ◌∷◌, ◌++◌, map, length, IfSome}
use Rattle.std.specs.FinMap.{empty, get, insert}
use Rattle.std.specs.List.{Contains}
use Rattle.ere_tree.specs.Captures.{Captures}
use Rattle.ere_tree.specs.Derivation.{Way, Ways, Derives, DerivesAll, IsPart, IsSameText, part}
use Rattle.ere_tree.specs.Tree.{Tree, alt, repeat, trees_of}
use Rattle.ere_tree.specs.View.{view}
use Rattle.ere_dive.specs.declared.open.Opened.{Opened}
use Rattle.ere_dive.specs.declared.open.Opened.TheVariants.{Nothing, One, Two}
use Rattle.ere_dive.specs.declared.open.Site.{Site}
use Rattle.ere_dive.specs.declared.task.Held.{Held}
use Rattle.ere_dive.specs.declared.task.State.{State}
use Rattle.ere_dive.specs.declared.task.Task.{Task}
use Rattle.ere_dive.specs.declared.task.What.{What}
use Rattle.ere_dive.specs.declared.task.What.TheVariants.{Match, Parts, Choices, Members, Beyond, Close}

-- a step from a place to a place, which takes captures to captures
abbrev pub Step : Type 1
Step = ℕ → ℕ → Captures → Captures → Type 0

-- none at all; what a tree does
abbrev pub Stays : Step
Stays p q c d = (q ≡ p) × (d ≡ c)

abbrev pub Does : List ℕ → Tree → Step
Does s t p q c d = (w : Way) × Derives s t w p q c d

-- what a task does
abbrev pub DoesTask : List ℕ → What → Step
DoesTask s (Match ere) p q c d = Does s (view ere.now) p q c d
DoesTask s (Parts all) p q c d = (ws : Ways) × DerivesAll s (trees_of (map view all.now)) ws p q c d
DoesTask s (Choices all) p q c d = Does s (alt (trees_of (map view all.now))) p q c d
DoesTask s (Members inner least most) p q c d = Does s (repeat (view inner.now) least most) p q c d
DoesTask s (Beyond from) p q c d = (from < p) × (q ≡ p) × (d ≡ c)
DoesTask s (Close number from) p q c d = (q ≡ p) × (d ≡ insert c number (from, p))

-- what tasks do, the last one first
abbrev pub DoesTasks : List ℕ → List Task → Step
DoesTasks s [] p q c d = Stays p q c d
DoesTasks s (x ∷ xs) p q c d = (r : ℕ) × (e : Captures) × DoesTasks s xs p r c e × DoesTask s x.what r q e d

-- each of these is what its group holds
abbrev pub Shows : List Held → Captures → Type 0
Shows held c = (one : Held) → Contains held one → get c one.number ≡ Some (one.part.from, one.part.to)

-- the expression matches the whole span
abbrev pub Matches : List ℕ → Tree → ℕ → ℕ → Type 0
Matches s t low high = (d : Captures) × Does s t low high empty d

-- whatever goes a step from the state's place, and then does its tasks up to the span's end, makes a match
pub record LeadsBy (site : Site) (D : Step) (state : State) : Type 0 where
  pub captures : Captures
  pub shows : Shows state.held.items captures
  pub inside : state.place ≤ site.high
  pub ends : (r : ℕ) (e d : Captures) → D state.place r captures e
      → DoesTasks site.text.now state.tasks.items r site.high e d
      → Matches site.text.now (view site.whole.now) site.low site.high

abbrev pub LeadsTo : Site → State → Type 0
LeadsTo site state = LeadsBy site Stays state

abbrev pub AllLead : Site → List State → Type 0
AllLead site states = (state : State) → Contains states state → LeadsTo site state

-- each of these does
abbrev pub OpensTo : Site → Opened → Type 0
OpensTo site Nothing = Unit {0}
OpensTo site (One first) = LeadsTo site first
OpensTo site (Two first other) = LeadsTo site first × LeadsTo site other

-- one more task, which is done first
pub record IsPushed (what : What) (old new : State) : Type 0 where
  pub task : Task
  pub is : task.what ≡ what
  pub tasks : new.tasks.items ≡ old.tasks.items ++ task ∷ []
  pub place : new.place ≡ old.place
  pub held : new.held.items ≡ old.held.items

-- the second state is as the first
pub record IsCopy (old new : State) : Type 0 where
  pub tasks : new.tasks.items ≡ old.tasks.items
  pub place : new.place ≡ old.place
  pub held : new.held.items ≡ old.held.items

-- these are the others, and at most what the group of this number holds now
abbrev pub IsClosed : ℕ → ℕ → ℕ → List Held → List Held → Type 0
IsClosed number from to held found =
    (x : Held) → Contains found x
    → ((x.number ≡ number) × (x.part.from ≡ from) × (x.part.to ≡ to)) ⊎ (Contains held x × (x.number ≢ number))

-- the span lies in the text
abbrev pub FitsText : Site → Type 0
FitsText site = (site.low ≤ site.high) × (site.high ≤ length site.text.now)

-- up to this place the same text stands as that of a part
abbrev pub StandsTo : Site → ℕ → ℕ → ℕ → Bool → ℕ → Type 0
StandsTo site place from to fold end =
    IsPart site.text.now place end × (end ≤ site.high)
    × IsSameText fold (part site.text.now place end) (part site.text.now from to)

-- one more than the second lets there be is let by the first
abbrev pub LetsOneMore : Option ℕ → Option ℕ → Type 0
LetsOneMore most fewer =
    (count : ℕ) → IfSome fewer (λ n. count ≤ n) → IfSome most (λ n. count + 1 ≤ n)
