-- The greatest place of rows, one place after the other; and what rows tell of ends that were found from some places, where no
-- group holds anything, and behind which nothing is read.
-- The hard one is `ends_told`: each end is that of a state that is found, and the other way round.
use Rattle.std.proofs.Common.{◌≡◌, ℕ, ◌≤◌, Option, Some, None, List, [], ◌∷◌, refl, sym, subst, inl, inr, arith}
use Rattle.std.specs.Prelude.{◌⊎◌}
use Rattle.std.specs.FinMap.{empty, get-empty}
use Rattle.std.specs.List.{Contains}
use Rattle.std.specs.Ordering.{nat_cmp}
use Rattle.std.proofs.lemmas.Option.{none-some}
use Rattle.ere_tree.proofs.CapturesLemmas.{some_same}
use Rattle.ere_tree.specs.Captures.{Captures}
use Rattle.ere_tree.specs.Tree.{Tree}
use Rattle.ere_reach.specs.declared.held.Held.{Held}
use Rattle.ere_reach.specs.declared.rows.Rows.{Rows}
use Rattle.ere_reach.specs.declared.site.Site.{Site}
use Rattle.ere_reach.specs.Held.{Covers, Tells}
use Rattle.ere_reach.specs.Leads.{Does, EndsNowhere, Leads, LeadsOver, TellsEnd, TellsEnds}
use Rattle.ere_reach.specs.Rows.{AreSame, HasNone, HasState, IsGreatest, IsPut, States}
use Rattle.ere_reach.proofs.BeforeLemmas.{some_before}
use Rattle.ere_reach.proofs.LeadsLemmas.{no_state}
use Rattle.ere_reach.proofs.TakenLemmas.{Grows, one_has, one_is}

-- the greatest place of a kind of states
pub record IsGreatestOf (P : States) (m : Option ℕ) : Type 0 where
  pub one : (x : ℕ) → m ≡ Some x → (h : List Held) × P h x
  pub most : (h : List Held) (p : ℕ) → P h p → (x : ℕ) × (m ≡ Some x) × (p ≤ x)

pub greatest_same : (P Q : States) (m : Option ℕ) → AreSame Q P → IsGreatestOf P m → IsGreatestOf Q m
greatest_same P Q m same is = record {
  one = λ x e. let one = is.one x e in (one.0, (same one.0 x).1 one.1);
  most = λ h p has. is.most h p ((same h p).0 has);
}

pub greatest_of : (rows : Rows) (m : Option ℕ) → IsGreatestOf (HasState rows) m → IsGreatest rows m
greatest_of rows None is = λ h p has. let x = is.most h p has in absurd (none-some x.0 x.1)
greatest_of rows (Some m) is =
    (is.one m refl, λ h p has. let x = is.most h p has in omega (arith, x.2, some_same m x.0 x.1))

-- one place more
pub greatest_more : (P Q : States) (held : List Held) (place new : ℕ) (old : Option ℕ) → Grows P held (place ∷ []) Q
    → (old ≡ Some new) ⊎ (place ≡ new) → place ≤ new → ((m : ℕ) → old ≡ Some m → m ≤ new) → IsGreatestOf P old
    → IsGreatestOf Q (Some new)
greatest_more P Q held place new old grows which low most is = record {
  one = λ x e. subst (λ n. (h : List Held) × Q h n) (some_same new x e) (elim which [
    | inl was ↦ let one = is.one new was in (one.0, (grows one.0 new).1 (inl one.1))
    | inr here ↦ (held, (grows held new).1 (inr (refl, (0, omega arith, here))))
  ]);
  most = λ h p has. (
    new,
    refl,
    elim ((grows h p).0 has) [
      | inl was ↦ let x = is.most h p was in omega (arith, x.2, most x.0 x.1)
      | inr at ↦ omega (arith, one_is place p at.1, low)
    ],
  );
}

-- no group holds anything at first, and the empty list tells so
nothing_held : (s : List ℕ) (high : ℕ) (live : List ℕ) (p : ℕ) → Covers s high live [] p empty
nothing_held s high live p = λ n has.
    subst (λ (o : Option (ℕ × ℕ)). Tells s high p None o) (sym (get-empty nat_cmp n)) tt

module _ (site : Site) (t : Tree) (found : Rows) where
  -- what is found from some places tells the ends
  pub ends_told : (places : List ℕ) (none start : Rows) → HasNone (HasState none) → IsPut none [] places start
      → LeadsOver site t [] start found → TellsEnds site t places found
  ends_told places none start empty_rows put leads = (some, each)
    where
      s : List ℕ
      s = site.text.now

      before : List ℕ
      before = (some_before t []).0

      all : Leads site (Does s t) before [] start found
      all = leads before (some_before t []).1

      -- each state that is found has such an end
      some : (h : List Held) (q : ℕ) → HasState found h q
          → (q ≤ site.high) × (p : ℕ) × Contains places p × (d : Captures) × Does s t p q empty d
      some h q has =
          let from = all.sound h q has in
          elim ((put from.0 from.1).0 from.2) [
            | inl old ↦ absurd (empty_rows from.0 from.1 old)
            | inr new ↦
                let goes = from.3 empty (subst (λ (g : List Held). Covers s site.high before g from.1 empty) (sym new.0)
                (nothing_held s site.high before from.1)) in
                ((all.inside h q has).1, from.1, new.1, goes.0, goes.1)
          ]

      -- each end is that of a state that is found
      each : (p q : ℕ) (d : Captures) → Contains places p → q ≤ site.high → Does s t p q empty d
          → (h : List Held) × HasState found h q
      each p q d at low does =
          let one = all.complete [] p empty q d ((put [] p).1 (inr (refl, at))) (nothing_held s site.high before p) does low in
          (one.0, one.1)

  -- the greatest end from one place, and that there is none from any
  pub end_told : (end : Option ℕ) → TellsEnds site t (site.low ∷ []) found → IsGreatest found end
      → TellsEnd site.text.now t site.low site.high end
  end_told None ends none = λ w q d low h.
      let one = ends.1 site.low q d (one_has site.low) low (w, h) in none one.0 q one.1
  end_told (Some end) ends (has, most) =
      let (low, p, at, d, does) = ends.0 has.0 end has.1 in
      let here = subst (λ x. Does site.text.now t x end empty d) (sym (one_is site.low p at)) does in (
        here.0,
        d,
        low,
        here.1,
        λ v q e fits h.
            let other = ends.1 site.low q e (one_has site.low) fits (v, h) in most other.0 q other.1,
      )

  pub nowhere_told : (places : List ℕ) → TellsEnds site t places found → found.rows.items ≡ []
      → EndsNowhere site.text.now t places site.high
  nowhere_told places ends none p at w q d low h =
      let one = ends.1 p q d at low (w, h) in no_state found none one.0 q one.1
