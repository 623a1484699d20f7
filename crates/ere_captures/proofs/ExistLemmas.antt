-- Of the ways over a part there is one to which none is preferred.
-- The slow program's listing has all derivations from a place; of those that end at the part's end the best is picked
-- one by one, since preference leads on.
use Rattle.std.proofs.Common.{◌≡◌, ℕ, false, List, [], ◌∷◌, refl, sym, ap, ◌∙◌, subst, inl, inr}
use Rattle.std.specs.Prelude.{◌⊎◌}
use Rattle.std.specs.Ordering.{ordering_reverse}
use Rattle.std.specs.declared.cmp.Ordering.{Ordering}
use Rattle.std.specs.declared.cmp.Ordering.TheVariants.{Less, Equal, Greater}
use Rattle.std.proofs.lemmas.Bool.{cases_eq}
use Rattle.ere_tree.specs.Captures.{Captures}
use Rattle.ere_tree.specs.Derivation.{Way, Derives, Spans}
use Rattle.ere_tree.specs.Preference.{within}
use Rattle.ere_tree.specs.Shape.{has_refs}
use Rattle.ere_tree.specs.Tree.{Tree}
use Rattle.ere_tree.proofs.FreeLemmas.{free}
use Rattle.ere_tree.proofs.PreferenceLemmas.{within_back, within_leads_on, greater_not_less}
use Rattle.ere_slow.specs.Listing.{Found, all_ways}
use Rattle.ere_slow.proofs.ListingLemmas.{all_ways-sound, all_ways-complete}
use Rattle.ere_slow.proofs.MembershipLemmas.{IsIn}
use Rattle.ere_captures.specs.Best.{IsBest}
use Rattle.ere_captures.proofs.BestLemmas.{equal_not_less}

-- a way isn't preferred to itself
not_itself : (w : Way) → within w w ≡ Less → ⊥
not_itself w e = greater_not_less (sym (ap ordering_reverse e) ∙ sym (within_back w w) ∙ e)

-- of what is listed, one that ends there and to which none that does is preferred
record Picked (s : List ℕ) (t : Tree) (i j : ℕ) (c : Captures) (fs : List Found) : Type 0 where
  way : Way
  captures : Captures
  shows : Derives s t way i j c captures
  best : (f : Found) → IsIn f fs → f.to ≡ j → within f.way way ≡ Less → ⊥

abbrev NoneEnds : ℕ → List Found → Type 0
NoneEnds j fs = (f : Found) → IsIn f fs → f.to ≡ j → ⊥

-- the derivation of one that is listed, which ends there
here : (s : List ℕ) (t : Tree) (i j : ℕ) (c : Captures) (f : Found) → Derives s t f.way i f.to c f.captures → f.to ≡ j
    → Derives s t f.way i j c f.captures
here s t i j c f h e = subst (λ n. Derives s t f.way i n c f.captures) e h

pick : (s : List ℕ) (t : Tree) (i j : ℕ) (c : Captures) (fs : List Found)
    → ((f : Found) → IsIn f fs → Derives s t f.way i f.to c f.captures)
    → NoneEnds j fs ⊎ Picked s t i j c fs
pick s t i j c [] all = inl (λ f h. absurd h)
pick s t i j c (f ∷ fs) all = elim (cases_eq f.to j) [
  | inl ends ↦ with_one (here s t i j c f (all f (inl refl)) ends) (pick s t i j c fs (λ g h. all g (inr h)))
  | inr other ↦ without (pick s t i j c fs (λ g h. all g (inr h))) other
]
  where
    without : NoneEnds j fs ⊎ Picked s t i j c fs → (f.to ≡ j → ⊥) → NoneEnds j (f ∷ fs) ⊎ Picked s t i j c (f ∷ fs)
    without (inl none) other = inl (λ g h. elim h [
      | inl is ↦ λ e. other (ap (λ x. x.to) (sym is) ∙ e)
      | inr rest ↦ none g rest
    ])
    without (inr p) other = inr (record {
      way = p.way;
      captures = p.captures;
      shows = p.shows;
      best = λ g h. elim h [
        | inl is ↦ λ e less. absurd (other (ap (λ x. x.to) (sym is) ∙ e))
        | inr rest ↦ p.best g rest
      ];
    })

    first : Derives s t f.way i j c f.captures → ((g : Found) → IsIn g fs → g.to ≡ j → within g.way f.way ≡ Less → ⊥)
        → Picked s t i j c (f ∷ fs)
    first shows best = record {
      way = f.way;
      captures = f.captures;
      shows = shows;
      best = λ g h. elim h [
        | inl is ↦ λ e less. not_itself f.way (subst (λ x. within x.way f.way ≡ Less) is less)
        | inr rest ↦ best g rest
      ];
    }

    kept : (p : Picked s t i j c fs) → (within f.way p.way ≡ Less → ⊥) → Picked s t i j c (f ∷ fs)
    kept p not_less = record {
      way = p.way;
      captures = p.captures;
      shows = p.shows;
      best = λ g h. elim h [
        | inl is ↦ λ e less. not_less (subst (λ x. within x.way p.way ≡ Less) is less)
        | inr rest ↦ p.best g rest
      ];
    }

    compared : (p : Picked s t i j c fs) (o : Ordering) → within f.way p.way ≡ o
        → Derives s t f.way i j c f.captures → Picked s t i j c (f ∷ fs)
    compared p Less e shows = first shows (λ g h ends less.
        p.best g h ends (within_leads_on s t g.way f.way p.way i j c g.captures f.captures p.captures
        (here s t i j c g (all g (inr h)) ends) shows p.shows less e))
    compared p Equal e shows = kept p (λ less. equal_not_less (sym e ∙ less))
    compared p Greater e shows = kept p (λ less. greater_not_less (sym e ∙ less))

    with_one : Derives s t f.way i j c f.captures → NoneEnds j fs ⊎ Picked s t i j c fs
        → NoneEnds j (f ∷ fs) ⊎ Picked s t i j c (f ∷ fs)
    with_one shows (inl none) = inr (first shows (λ g h ends less. none g h ends))
    with_one shows (inr p) = inr (compared p (within f.way p.way) refl shows)

pub best_way : (s : List ℕ) (t : Tree) (i j : ℕ) (c : Captures) → has_refs t ≡ false → Spans s t i j
    → (w : Way) × (d : Captures) × Derives s t w i j c d × IsBest s t w i j
best_way s t i j c r (w, b, e, h) =
    let from = free s t r w i j b e c h in
    let listed = all_ways-complete s t w i j c from.0 from.1 in
    elim (pick s t i j c (all_ways s t i c) (all_ways-sound s t i c)) [
      | inl none ↦ absurd (none (record { way = w; to = j; captures = from.0 }) listed refl)
      | inr p ↦ (
        p.way,
        p.captures,
        p.shows,
        λ v x y g less.
            let other = free s t r v i j x y c g in
            p.best (record { way = v; to = j; captures = other.0 })
            (all_ways-complete s t v i j c other.0 other.1) refl less,
      )
    ]
