-- Rows to which a step leads: steps one behind the other, a step that is the same as another, rows with the same states.
-- That they are sound stands alone, for rows that are told sound by one step and complete by another.
-- None is hard: `leads_then` needs that what comes behind does not lead back.
use Rattle.std.proofs.Common.{◌≡◌, ℕ, ◌≤◌, List, [], subst, inl, inr, arith}
use Rattle.std.specs.List.{Contains}
use Rattle.ere_tree.specs.Captures.{Captures}
use Rattle.ere_reach.specs.declared.held.Held.{Held}
use Rattle.ere_reach.specs.declared.row.Row.{Row}
use Rattle.ere_reach.specs.declared.rows.Rows.{Rows}
use Rattle.ere_reach.specs.declared.site.Site.{Site}
use Rattle.ere_reach.specs.Held.{Covers}
use Rattle.ere_reach.specs.Leads.{Step, IsSound, Leads}
use Rattle.ere_reach.specs.Rows.{AreInside, AreSame, HasNone, HasState, IsJoined}

-- a step, and then another
abbrev pub Both : Step → Step → Step
Both D E p q c d = (r : ℕ) × (e : Captures) × D p r c e × E r q e d

-- whatever the first one does the second one does too; it leads no place back
abbrev pub IsWithin : Step → Step → Type 0
IsWithin D E = (p q : ℕ) (c d : Captures) → D p q c d → E p q c d

abbrev pub Grows : Step → Type 0
Grows D = (p q : ℕ) (c d : Captures) → D p q c d → p ≤ q

-- the second rows have all states of the first
abbrev pub HasAll : Rows → Rows → Type 0
HasAll few many = (h : List Held) (p : ℕ) → HasState few h p → HasState many h p

-- fewer groups are told as well
pub covers_fewer : (s : List ℕ) (high : ℕ) (many few : List ℕ) (h : List Held) (p : ℕ) (c : Captures)
    → ((n : ℕ) → Contains few n → Contains many n) → Covers s high many h p c → Covers s high few h p c
covers_fewer s high many few h p c each covers = λ n has. covers n (each n has)

-- ONE BEHIND THE OTHER

module _ (site : Site) (D E : Step) (before between behind : List ℕ) (from mid found : Rows) where
  pub sound_then : IsSound site D before between from mid → IsSound site E between behind mid found
      → IsSound site (Both D E) before behind from found
  sound_then first second h q has =
      let late = second h q has in
      let early = first late.0 late.1 late.2 in (
        early.0,
        early.1,
        early.2,
        λ c covers.
            let one = early.3 c covers in
            let other = late.3 one.0 one.2 in
            (other.0, (late.1, one.0, one.1, other.1), other.2),
      )

  pub leads_then : Grows E → Leads site D before between from mid → Leads site E between behind mid found
      → Leads site (Both D E) before behind from found
  leads_then grows first second = record {
    sound = sound_then first.sound second.sound;
    complete = λ g p c q d has covers both low.
        let one = first.complete g p c both.0 both.1 has covers both.2
        (omega (arith, grows both.0 q both.1 d both.3, low)) in
        second.complete one.0 both.0 both.1 q d one.1 one.2 both.3 low;
    inside = second.inside;
  }

-- A STEP THAT IS THE SAME

module _ (site : Site) (D E : Step) (before behind : List ℕ) (from found : Rows) where
  pub sound_as : IsWithin D E → IsSound site D before behind from found → IsSound site E before behind from found
  sound_as within sound h q has =
      let known = sound h q has in (
        known.0,
        known.1,
        known.2,
        λ c covers. let one = known.3 c covers in (one.0, within known.1 q c one.0 one.1, one.2),
      )

  pub leads_as : IsWithin D E → IsWithin E D → Leads site D before behind from found
      → Leads site E before behind from found
  leads_as to back leads = record {
    sound = sound_as to leads.sound;
    complete = λ g p c q d has covers step low. leads.complete g p c q d has covers (back p q c d step) low;
    inside = leads.inside;
  }

pub inside_joined : (low high : ℕ) (one other all : Rows) → IsJoined one other all → AreInside low high one
    → AreInside low high other → AreInside low high all
inside_joined low high one other all joined first second = λ h p has.
    elim ((joined h p).0 has) [ inl left ↦ first h p left | inr right ↦ second h p right ]

-- ROWS WITH THE SAME STATES

pub sound_same : (site : Site) (D : Step) (before behind : List ℕ) (from others found fewer : Rows)
    → HasAll from others → HasAll fewer found → IsSound site D before behind from found
    → IsSound site D before behind others fewer
sound_same site D before behind from others found fewer more less sound = λ h q has.
    let known = sound h q (less h q has) in
    (known.0, known.1, more known.0 known.1 known.2, known.3)

pub leads_same : (site : Site) (D : Step) (before behind : List ℕ) (from others found rows : Rows)
    → AreSame (HasState others) (HasState from) → AreSame (HasState rows) (HasState found)
    → Leads site D before behind from found → Leads site D before behind others rows
leads_same site D before behind from others found rows first last leads = record {
  sound = sound_same site D before behind from others found rows
      (λ h p has. (first h p).1 has) (λ h p has. (last h p).0 has) leads.sound;
  complete = λ g p c q d has covers step low.
      let known = leads.complete g p c q d ((first g p).0 has) covers step low in
      (known.0, (last known.0 q).1 known.1, known.2);
  inside = λ h p has. leads.inside h p ((last h p).0 has);
}

pub same_itself : (rows : Rows) → AreSame (HasState rows) (HasState rows)
same_itself rows h p = (λ has. has, λ has. has)

-- NO ROWS

pub no_state : (rows : Rows) → rows.rows.items ≡ [] → HasNone (HasState rows)
no_state rows none h p has =
    let few = subst (λ (all : List Row). Contains all has.0) none has.1 in absurd (omega (arith, few.1))

-- rows with all states of others and those of none
pub same_joined : (none other all : Rows) → HasNone (HasState none) → IsJoined none other all
    → AreSame (HasState all) (HasState other)
same_joined none other all empty joined h p = (
  λ has. elim ((joined h p).0 has) [ inl left ↦ absurd (empty h p left) | inr right ↦ right ],
  λ has. (joined h p).1 (inr has),
)
