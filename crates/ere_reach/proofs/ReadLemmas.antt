-- Rows without what isn't read lead where the rows themselves lead, so what is set apart by that alone is gone through once.
-- What is read before a tree is among all that is told before it, so a list that is kept covers what the whole one does.
-- The hard one is `all_of_group`: what is read before a group is what is read before that which it holds.
use Rattle.std.proofs.Common.{◌≢◌, ◌↔◌, ℕ, ◌==◌, List, refl, sym, ◌∙◌, inl, inr, arith, eq-eqb, true≢false}
use Rattle.std.specs.List.{Contains}
use Rattle.std.proofs.lemmas.Bool.{cases_eq}
use Rattle.ere_tree.proofs.FreeLemmas.{no_left, no_right}
use Rattle.ere_tree.specs.Captures.{Captures}
use Rattle.ere_tree.specs.Tree.{Tree, group}
use Rattle.ere_reach.specs.declared.held.Held.{Held}
use Rattle.ere_reach.specs.declared.rows.Rows.{Rows}
use Rattle.ere_reach.specs.declared.site.Site.{Site}
use Rattle.ere_reach.specs.Held.{Covers, IsKept}
use Rattle.ere_reach.specs.Leads.{KeepsRows, LeadsBy, Step}
use Rattle.ere_reach.specs.Live.{AreRead, HasRead, reads, surely_sets}
use Rattle.ere_reach.specs.Rows.{AreInside}
use Rattle.ere_reach.proofs.CoversLemmas.{covers_on}
use Rattle.ere_reach.proofs.GroupLemmas.{inside_read}

pub kept_inside : (site : Site) (read : List ℕ) (from kept : Rows) → KeepsRows site read from kept
    → AreInside site.low site.high from → AreInside site.low site.high kept
kept_inside site read from kept keeps inside h p has = let g = keeps.0 h p has in inside g.0 p g.1

-- these groups are read, and no others are among all that is told before
abbrev pub IsAll : ((ℕ → Type 0) → ℕ → Type 0) → List ℕ → List ℕ → Type 0
IsAll read behind all =
    HasRead read behind all × ((before : List ℕ) → HasRead read behind before → (n : ℕ) → Contains all n → Contains before n)

pub kept_leads : (site : Site) (D : Step) (read : (ℕ → Type 0) → ℕ → Type 0) (behind all : List ℕ) (from kept found : Rows)
    → IsAll read behind all → KeepsRows site all from kept → LeadsBy site D read behind kept found
    → LeadsBy site D read behind from found
kept_leads site D read behind all from kept found is keeps leads before has =
    let whole = leads all is.0 in record {
      sound = λ h q f.
          let k = whole.sound h q f in
          let g = keeps.0 k.0 k.1 k.2 in
          (g.0, k.1, g.1, λ c covers. k.3 c (on g.0 k.0 k.1 c g.2 covers));
      complete = λ g p c q d at covers step low.
          let k = keeps.1 g p at in
          whole.complete k.0 p c q d k.1 (on g k.0 p c k.2 covers) step low;
      inside = whole.inside;
    }
  where
    on : (g k : List Held) (p : ℕ) (c : Captures) → IsKept all g k → Covers site.text.now site.high before g p c
        → Covers site.text.now site.high all k p c
    on g k p c kept covers =
        covers_on site.text.now site.high before all g k p p c c (omega arith) (is.1 before has) kept (λ n read. refl) covers

-- what is read before a group, by what is read before what it holds
pub all_of_group : (number : ℕ) (t : Tree) (live others all : List ℕ)
    → ((n : ℕ) → Contains others n ↔ (Contains live n × (n ≢ number))) → AreRead (reads t) others all
    → IsAll (reads (group number t)) live all
all_of_group number t live others all rest are = (to, from)
  where
    to : HasRead (reads (group number t)) live all
    to n (inl refers) = (are n).1 (inl refers)
    to n (inr (read, unset)) = elim (cases_eq number n) [
      | inl same ↦ absurd (true≢false (sym (eq-eqb number n same) ∙ no_left (number == n) (surely_sets t n) unset))
      | inr other ↦
          (are n).1 (inr ((rest n).1 (read, λ e. other (sym e)), no_right (number == n) (surely_sets t n) unset))
    ]

    from : (before : List ℕ) → HasRead (reads (group number t)) live before → (n : ℕ) → Contains all n → Contains before n
    from before has n r = inside_read number t live others before
        (λ n read. let l = (rest n).0 read in (l.0, λ e. l.1 (sym e))) has n ((are n).0 r)
