-- Rows: what groups hold, with the places at which they hold it.
-- Own rule: a state is a list of what groups hold, and a place; how rows are kept makes no difference.
use Rattle.std.specs.Prelude.{◌≡◌, ◌↔◌, ℕ, ◌≤◌, Option, Some, None, List, take, drop, slice_get, ◌⊎◌}
use Rattle.std.specs.List.{Contains}
use Rattle.ere_reach.specs.declared.held.Held.{Held}
use Rattle.ere_reach.specs.declared.row.Row.{Row}
use Rattle.ere_reach.specs.declared.rows.Rows.{Rows}

-- a kind of states
abbrev pub States : Type 1
States = List Held → ℕ → Type 0

-- one of the rows has the state among those of its places that are taken
abbrev pub HasAt : (Row → List ℕ) → List Row → States
HasAt taken rows h p = (row : Row) × Contains rows row × (row.held.items ≡ h) × Contains (taken row) p

-- a row has it; a row has it that was gone on from; and one that wasn't
abbrev pub HasState : Rows → States
HasState rows h p = HasAt (λ row. row.places.items) rows.rows.items h p

abbrev pub IsDone : Rows → States
IsDone rows h p = HasAt (λ row. take row.done row.places.items) rows.rows.items h p

abbrev pub IsFresh : Rows → States
IsFresh rows h p = HasAt (λ row. drop row.done row.places.items) rows.rows.items h p

-- there is no such state; two kinds of states are the same
abbrev pub HasNone : States → Type 0
HasNone P = (h : List Held) (p : ℕ) → P h p → ⊥

abbrev pub AreSame : States → States → Type 0
AreSame P Q = (h : List Held) (p : ℕ) → P h p ↔ Q h p

-- the rows have all states of two others; those of another, and these places with a list
abbrev pub IsJoined : Rows → Rows → Rows → Type 0
IsJoined old other new = AreSame (HasState new) (λ h p. HasState old h p ⊎ HasState other h p)

abbrev pub IsPut : Rows → List Held → List ℕ → Rows → Type 0
IsPut old held places new = AreSame (HasState new) (λ h p. HasState old h p ⊎ ((h ≡ held) × Contains places p))

-- by the row with this index groups hold that
abbrev pub IsRow : List Row → ℕ → List Held → Type 0
IsRow rows index held = (row : Row) × (slice_get rows index ≡ Some row) × (row.held.items ≡ held)

-- each state was gone on from
abbrev pub AreAllDone : Rows → Type 0
AreAllDone rows = AreSame (HasState rows) (IsDone rows)

-- what was gone on from stays so, and nothing else
abbrev pub KeepsDone : Rows → Rows → Type 0
KeepsDone old new = AreSame (IsDone new) (IsDone old)

-- a place lies in a window; each place of the rows does
abbrev pub IsIn : ℕ → ℕ → ℕ → Type 0
IsIn low high p = (low ≤ p) × (p ≤ high)

abbrev pub AreInside : ℕ → ℕ → Rows → Type 0
AreInside low high rows = (h : List Held) (p : ℕ) → HasState rows h p → IsIn low high p

-- this is the greatest place of the rows, where they have one
abbrev pub IsGreatest : Rows → Option ℕ → Type 0
IsGreatest rows None = HasNone (HasState rows)
IsGreatest rows (Some greatest) =
    ((h : List Held) × HasState rows h greatest) × ((h : List Held) (p : ℕ) → HasState rows h p → p ≤ greatest)
