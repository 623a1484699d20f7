-- The rows to which something leads from some rows.
-- Own rule: a row stands for all captures that it covers, so that what is the same for all that is read behind is gone on
-- from once.
use Rattle.std.specs.Prelude.{◌≡◌, ◌↔◌, ◌⊎◌, ℕ, zero, ◌+◌, ◌-◌, ◌<◌, ◌≤◌, Bool, true, Option, Some, None, List, length, IsTrue}
use Rattle.std.specs.FinMap.{empty}
use Rattle.std.specs.List.{Contains}
use Rattle.ere_tree.specs.Captures.{Captures}
use Rattle.ere_tree.specs.Derivation.{Way, Ways, Derives, DerivesAll, DerivesEach, IsPart, IsSameText, count_of, part}
use Rattle.ere_tree.specs.Tree.{Tree, Trees}
use Rattle.ere_tree.specs.declared.hit.Cap.{Cap}
use Rattle.ere_reach.specs.declared.closing.Known.{Known}
use Rattle.ere_reach.specs.declared.held.Held.{Held}
use Rattle.ere_reach.specs.declared.rows.Rows.{Rows}
use Rattle.ere_reach.specs.declared.site.Site.{Site}
use Rattle.ere_reach.specs.Held.{Covers, IsKept, IsKeptWith, StandsNowhere, Tells}
use Rattle.ere_reach.specs.Live.{HasRead, reads, reads_all}
use Rattle.ere_reach.specs.Rows.{AreInside, AreSame, HasState, IsDone, States}

-- a step from a place to a place, which takes captures to captures
abbrev pub Step : Type 1
Step = ℕ → ℕ → Captures → Captures → Type 0

-- what a tree does; trees one behind the other; so many members at most of a repeat, none of which is empty
abbrev pub Does : List ℕ → Tree → Step
Does s t p q c d = (w : Way) × Derives s t w p q c d

abbrev pub DoesAll : List ℕ → Trees → Step
DoesAll s ts p q c d = (ws : Ways) × DerivesAll s ts ws p q c d

abbrev pub DoesUpTo : List ℕ → Tree → ℕ → Step
DoesUpTo s t most p q c d = (ws : Ways) × (count_of ws ≤ most) × DerivesEach s t zero ws p q c d

-- a member that isn't empty; and the same, or nothing at all
abbrev pub DoesFurther : List ℕ → Tree → Step
DoesFurther s t p q c d = (p < q) × Does s t p q c d

abbrev pub DoesOrStays : List ℕ → Tree → Step
DoesOrStays s t p q c d = DoesFurther s t p q c d ⊎ ((q ≡ p) × (d ≡ c))

-- from a state each of the captures that it covers is taken to some that the other one covers
abbrev pub Goes : Site → Step → List ℕ → List ℕ → List Held → ℕ → List Held → ℕ → Type 0
Goes site D before behind g p h q =
    (c : Captures) → Covers site.text.now site.high before g p c
    → (d : Captures) × D p q c d × Covers site.text.now site.high behind h q d

-- each state that is found is one to which a step leads
abbrev pub IsSound : Site → Step → List ℕ → List ℕ → Rows → Rows → Type 0
IsSound site D before behind from found =
    (h : List Held) (q : ℕ) → HasState found h q
    → (g : List Held) × (p : ℕ) × HasState from g p × Goes site D before behind g p h q

-- whatever a step leads to is covered by a state that is found
abbrev pub IsComplete : Site → Step → List ℕ → List ℕ → Rows → Rows → Type 0
IsComplete site D before behind from found =
    (g : List Held) (p : ℕ) (c : Captures) (q : ℕ) (d : Captures) → HasState from g p
    → Covers site.text.now site.high before g p c → D p q c d → q ≤ site.high
    → (h : List Held) × HasState found h q × Covers site.text.now site.high behind h q d

-- these are the rows to which a step leads from those
pub record Leads (site : Site) (D : Step) (before behind : List ℕ) (from found : Rows) : Type 0 where
  pub sound : IsSound site D before behind from found
  pub complete : IsComplete site D before behind from found
  pub inside : AreInside site.low site.high found

-- the same whatever is told before of the groups that are read
abbrev pub LeadsBy : Site → Step → ((ℕ → Type 0) → ℕ → Type 0) → List ℕ → Rows → Rows → Type 0
LeadsBy site D read behind from found =
    (before : List ℕ) → HasRead read behind before → Leads site D before behind from found

-- the rows to which a tree leads, and trees one behind the other
abbrev pub LeadsOver : Site → Tree → List ℕ → Rows → Rows → Type 0
LeadsOver site t behind from found = LeadsBy site (Does site.text.now t) (reads t) behind from found

abbrev pub LeadsThrough : Site → Trees → List ℕ → Rows → Rows → Type 0
LeadsThrough site ts behind from found = LeadsBy site (DoesAll site.text.now ts) (reads_all ts) behind from found

-- The rows to which a member that isn't empty leads. An empty one that changes nothing may be among them.
pub record Further (site : Site) (t : Tree) (before live : List ℕ) (from found : Rows) : Type 0 where
  pub sound : IsSound site (DoesOrStays site.text.now t) before live from found
  pub complete : IsComplete site (DoesFurther site.text.now t) before live from found
  pub inside : AreInside site.low site.high found

-- the same whatever is told before of the groups that are read
abbrev pub LeadsFurther : Site → Tree → List ℕ → Rows → Rows → Type 0
LeadsFurther site t live from found =
    (before : List ℕ) → HasRead (reads t) live before → Further site t before live from found

-- a state was there, or it is one of some others with a list that tells the same of the groups that are read
abbrev pub IsOldOrKept : List ℕ → States → Rows → List Held → ℕ → Type 0
IsOldOrKept read from old h p = HasState old h p ⊎ ((g : List Held) × from g p × IsKept read g h)

-- states are entered by the groups that are read: those are found that weren't gone on from before, and no others are done
pub record Enters (read : List ℕ) (from : States) (old new found : Rows) : Type 0 where
  pub sound : (h : List Held) (p : ℕ) → HasState found h p → IsOldOrKept read from old h p
  pub kept : (h : List Held) (p : ℕ) → HasState new h p → IsOldOrKept read from old h p
  pub gone : (h : List Held) (p : ℕ) → IsDone new h p → IsDone old h p ⊎ HasState found h p
  pub whole : (g : List Held) (p : ℕ) → from g p
      → (h : List Held) × IsKept read g h × (IsDone old h p ⊎ HasState found h p)

-- the rows to which up to so many members lead that aren't empty
abbrev pub LeadsUpTo : Site → Tree → ℕ → List ℕ → Rows → Rows → Type 0
LeadsUpTo site t most live from found = Leads site (DoesUpTo site.text.now t most) live live from found

-- from the end of [from, to) on its text stands nowhere; and the same text begins at another place
abbrev pub StandsNoMore : Site → ℕ → ℕ → Type 0
StandsNoMore site from to = StandsNowhere site.text.now site.high to (part site.text.now from to)

abbrev pub StandsFirst : Site → ℕ → ℕ → ℕ → Type 0
StandsFirst site from to first = part site.text.now first (first + (to - from)) ≡ part site.text.now from to

-- from its end on it stands at no place before `next`, also with letters in either case; so it is with what is known of it
abbrev pub StandsNotBefore : Site → ℕ → ℕ → ℕ → Type 0
StandsNotBefore site from to next =
    (i j : ℕ) → to ≤ i → i < next → j ≤ site.high → IsPart site.text.now i j
    → IsSameText true (part site.text.now i j) (part site.text.now from to) → ⊥

abbrev pub FitsKnown : Site → ℕ → Known → Type 0
FitsKnown site from known = StandsNotBefore site from known.to known.next

-- the second list tells the same as the first of the groups that are read, but for one, which is closed over [from, to)
abbrev pub IsClosed : Site → ℕ → ℕ → List ℕ → List Held → ℕ → List Held → Type 0
IsClosed site number from live g to h =
    (cap : Option Cap) × Tells site.text.now site.high to cap (Some (from, to)) × IsKeptWith live number cap g h

-- the rows have the states of others, each with a list that tells the same of the groups that are read
abbrev pub KeepsRows : Site → List ℕ → Rows → Rows → Type 0
KeepsRows site live from found =
    ((h : List Held) (p : ℕ) → HasState found h p → (g : List Held) × HasState from g p × IsKept live g h)
    × ((g : List Held) (p : ℕ) → HasState from g p → (h : List Held) × HasState found h p × IsKept live g h)

-- behind a group that begins at a place, from the states behind what it holds: each that is there, and one for each of them
-- that lies there up to the window's end
pub record PutsClosed (site : Site) (number from : ℕ) (live : List ℕ) (inside old new : Rows) : Type 0 where
  pub kept : (h : List Held) (q : ℕ) → HasState old h q → HasState new h q
  pub put : (g : List Held) (q : ℕ) → HasState inside g q → from ≤ q → q ≤ site.high
      → (h : List Held) × HasState new h q × IsClosed site number from live g q h
  pub alone : (h : List Held) (q : ℕ) → HasState new h q → HasState old h q
      ⊎ ((g : List Held) × HasState inside g q × (from ≤ q) × (q ≤ site.high) × IsClosed site number from live g q h)

-- those beyond a place are added
abbrev pub PutsBeyond : ℕ → Rows → Rows → Rows → Type 0
PutsBeyond place rows old new =
    AreSame (HasState new) (λ h p. HasState old h p ⊎ (HasState rows h p × (place < p)))

-- whether what stands in a part stands at a place too, up to the window's end
abbrev pub StandsAt : Site → ℕ → Cap → Bool → Bool → Type 0
StandsAt site place cap fold answer =
    IsPart site.text.now cap.from cap.to
    → IsTrue answer ↔ ((place + (cap.to - cap.from) ≤ site.high)
    × IsSameText fold (part site.text.now place (place + (cap.to - cap.from))) (part site.text.now cap.from cap.to))

-- the window lies in the text
abbrev pub FitsText : Site → Type 0
FitsText site = site.high ≤ length site.text.now

-- how many members more than `least` a repeat may have in a window so wide; each of them takes a byte
abbrev pub MayHave : ℕ → Option ℕ → ℕ → Option ℕ → Type 0
MayHave least most width None = (m : ℕ) × (most ≡ Some m) × (m < least)
MayHave least None width (Some more) = more ≡ width
MayHave least (Some most) width (Some more) = least + more ≡ most

-- the greatest end up to `high` of what a tree derives from `low`, from captures of no group
abbrev pub TellsEnd : List ℕ → Tree → ℕ → ℕ → Option ℕ → Type 0
TellsEnd s t low high None =
    (w : Way) (q : ℕ) (d : Captures) → q ≤ high → Derives s t w low q empty d → ⊥
TellsEnd s t low high (Some end) =
    (w : Way) × (d : Captures) × (end ≤ high) × Derives s t w low end empty d
    × ((v : Way) (q : ℕ) (e : Captures) → q ≤ high → Derives s t v low q empty e → q ≤ end)

-- the rows have the ends up to the window's of what a tree derives from some places, from captures of no group, and no others
abbrev pub TellsEnds : Site → Tree → List ℕ → Rows → Type 0
TellsEnds site t places found =
    ((h : List Held) (q : ℕ) → HasState found h q
    → (q ≤ site.high) × (p : ℕ) × Contains places p × (d : Captures) × Does site.text.now t p q empty d)
    × ((p q : ℕ) (d : Captures) → Contains places p → q ≤ site.high → Does site.text.now t p q empty d
    → (h : List Held) × HasState found h q)

-- up to `high` there is no end of what a tree derives from one of some places, from captures of no group
abbrev pub EndsNowhere : List ℕ → Tree → List ℕ → ℕ → Type 0
EndsNowhere s t places high =
    (p : ℕ) → Contains places p → (w : Way) (q : ℕ) (d : Captures) → q ≤ high → Derives s t w p q empty d → ⊥
