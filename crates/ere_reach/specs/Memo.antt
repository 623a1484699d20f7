-- What was told of the insides of groups.
-- Own rule: to what a tree leads from one state rests on what it reads alone, so it is told once.
use Rattle.std.specs.Prelude.{◌≡◌, ℕ, ◌≤◌, ◌⊎◌, Some, List, [], ◌∷◌, false}
use Rattle.std.specs.List.{Contains}
use Rattle.ere_tree.specs.Captures.{Captures}
use Rattle.ere_tree.specs.Tree.{Tree, group}
use Rattle.ere_tree.specs.View.{view}
use Rattle.ere_reach.specs.declared.frame.Frame.{Frame}
use Rattle.ere_reach.specs.declared.held.Held.{Held}
use Rattle.ere_reach.specs.declared.memo.Memo.{Memo}
use Rattle.ere_reach.specs.declared.memo.Start.{Start}
use Rattle.ere_reach.specs.declared.memo.Told.{Told}
use Rattle.ere_reach.specs.declared.reach.Closing.{Closing}
use Rattle.ere_reach.specs.declared.reach.Group.{Group}
use Rattle.ere_reach.specs.declared.rows.Rows.{Rows}
use Rattle.ere_reach.specs.declared.site.Site.{Site}
use Rattle.ere_reach.specs.Asked.{AreBuilt}
use Rattle.ere_reach.specs.Held.{Covers, part_in}
use Rattle.ere_reach.specs.Leads.{Does, Goes, PutsClosed, Step}
use Rattle.ere_reach.specs.Live.{HasRead, reads}
use Rattle.ere_reach.specs.Moving.{sets_one}
use Rattle.ere_reach.specs.Rows.{AreInside, HasState}

-- these are the rows to which a step leads from one state
pub record LeadsOne (site : Site) (D : Step) (before behind : List ℕ) (held : List Held) (place : ℕ) (found : Rows) :
    Type 0 where
  pub sound : (h : List Held) (q : ℕ) → HasState found h q → Goes site D before behind held place h q
  pub complete : (c : Captures) (q : ℕ) (d : Captures) → Covers site.text.now site.high before held place c
      → D place q c d → q ≤ site.high → (h : List Held) × HasState found h q × Covers site.text.now site.high behind h q d
  pub inside : AreInside site.low site.high found

-- the rows to which a tree leads from one state, whatever is told before of the groups that are read
abbrev pub LeadsFrom : Site → Tree → List ℕ → List Held → ℕ → Rows → Type 0
LeadsFrom site t behind held place found =
    (before : List ℕ) → HasRead (reads t) behind before
    → LeadsOne site (Does site.text.now t) before behind held place found

-- something was told of a tree and a start; what it tells holds; and what each slot tells does
pub record IsOf (t : Tree) (start : Start) (told : Told) : Type 0 where
  pub inner : view told.inner.now ≡ t
  pub from : told.from ≡ start.from
  pub held : told.held.items ≡ start.held.now
  pub live : told.live.items ≡ start.live.now

abbrev pub Holds : Site → Told → Type 0
Holds site told = LeadsFrom site (view told.inner.now) told.live.items told.held.items told.from told.rows

-- all that was told holds, and what is kept to tell where expressions end serves these
pub record AllHold (site : Site) (memo : Memo) : Type 0 where
  pub told : (told : Told) → Contains memo.slots.items (Some told) → Holds site told
  pub asked : AreBuilt memo.asked

-- a slot has what one had before, or this one
abbrev pub HasOld : Memo → Memo → Type 0
HasOld old new = (told : Told) → Contains new.slots.items (Some told) → Contains old.slots.items (Some told)

abbrev pub HasOldOr : Memo → Told → Memo → Type 0
HasOldOr old one new =
    (told : Told) → Contains new.slots.items (Some told) → Contains old.slots.items (Some told) ⊎ (told ≡ one)

-- the second list has those of the first that may stand in a tree
abbrev pub HasSetIn : Tree → List ℕ → List ℕ → Type 0
HasSetIn t numbers own =
    ((n : ℕ) → Contains own n → Contains numbers n)
    × ((n : ℕ) → Contains numbers n → Contains own n ⊎ (sets_one t (n ∷ []) ≡ false))

-- of these groups a list tells what the first one does where they are among some, and else what the other one does
abbrev pub IsFramedBy : List ℕ → List ℕ → List Held → List Held → List Held → Type 0
IsFramedBy own others held inside list =
    (n : ℕ) → Contains others n
    → (Contains own n × (part_in list n ≡ part_in inside n)) ⊎ ((Contains own n → ⊥) × (part_in list n ≡ part_in held n))

-- the rows have the states of others, each with what a list tells of the groups that aren't among some
abbrev pub IsFramed : List ℕ → List ℕ → List Held → Rows → Rows → Type 0
IsFramed own others held inside found =
    ((h : List Held) (p : ℕ) → HasState found h p → (g : List Held) × HasState inside g p × IsFramedBy own others held g h)
    × ((g : List Held) (p : ℕ) → HasState inside g p → (h : List Held) × HasState found h p × IsFramedBy own others held g h)

-- the tree of a group
abbrev pub tree_of : Group → Tree
tree_of it = group it.number (view it.inner.now)

-- those behind a group, from the states behind its inside, where of the groups that don't stand in it a frame tells
abbrev pub PutsFramed : Closing → Frame → Rows → Rows → Rows → Type 0
PutsFramed closing frame inside old new =
    (framed : Rows) × IsFramed frame.own.now frame.others.now frame.held.now inside framed
    × PutsClosed closing.site closing.group.number closing.from closing.live.now framed old new
