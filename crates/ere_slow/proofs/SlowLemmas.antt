-- What the slow program answers: its list holds all derivations, and its hit is the one of the definition.
-- The best so far stays one to which none is preferred, since preference leads on; the hit is the best from the first
-- place that has one. `best_changes` is the hard one.
use Rattle.std.proofs.Common.{◌≡◌, ℕ, ◌+◌, ◌-◌, ◌^◌, MatchOption, None, Some, Option, drop, List, [], ◌∷◌, ◌++◌, ◌<◌, length, map, refl, sym, ap, ◌∙◌, subst, inl, inr, arith}
use Rattle.std.specs.List.{All, Contains}
use Rattle.std.proofs.lemmas.List.Elements.{All-push}
use Rattle.std.proofs.lemmas.Bool.{cases_lt}
use Rattle.std.specs.FinMap.{empty}
use Rattle.std.specs.Ordering.{ordering_reverse}
use Rattle.ere_tree.specs.Tree.{Tree}
use Rattle.ere_tree.specs.Captures.{Captures, caps_of}
use Rattle.ere_tree.specs.Shape.{greatest_group}
use Rattle.ere_tree.specs.declared.hit.Cap.{Cap}
use Rattle.ere_tree.specs.Derivation.{Way, Derives, IsPart}
use Rattle.ere_tree.specs.Preference.{preference, IsPreferred}
use Rattle.ere_tree.specs.Hit.{IsHit, TellsHit}
use Rattle.ere_slow.specs.Listing.{found_of, all_ways}
use Rattle.ere_slow.specs.Slow.{AreDerivations, AreAllDerivations, IsPreferredTo, IsMostPreferred, FitBehind, HasNoHitBefore}
use Rattle.ere_slow.specs.WayView.{way_of, captures_of}
use Rattle.ere_slow.specs.declared.slow.Derivation.{Derivation}
use Rattle.ere_slow.proofs.MembershipLemmas.{IsIn, IsIn-append_left, IsIn-append_right, IsIn-map, map-IsIn, All-each, All-IsIn, IsIn-Contains, Contains-IsIn, IsIn-Any}
use Rattle.ere_tree.proofs.CapturesLemmas.{empty_lies_in}
use Rattle.ere_tree.proofs.DerivationLemmas.{is_part, captures_lie_in, one_end}
use Rattle.ere_slow.proofs.ListingLemmas.{all_ways-sound, all_ways-complete}
use Rattle.ere_tree.proofs.PreferenceLemmas.{preference_back, preference_leads_on, greater_not_less}

pub listed_derive : (s : List ℕ) (t : Tree) (i : ℕ) (c : Captures) (ds : List Derivation)
    → map found_of ds ≡ all_ways s t i c → AreDerivations s t i c ds
listed_derive s t i c ds e =
    All-each (λ d. Derives s t (way_of d.way) i d.to c (captures_of d.captures)) ds
    (λ d h. all_ways-sound s t i c (found_of d) (subst (IsIn (found_of d)) e (IsIn-map found_of d ds h)))

pub derived_are_listed : (s : List ℕ) (t : Tree) (i : ℕ) (c : Captures) (ds : List Derivation)
    → map found_of ds ≡ all_ways s t i c → AreAllDerivations s t i c ds
derived_are_listed s t i c ds e w j d h =
    let r = map-IsIn found_of _ ds (subst (IsIn _) (sym e) (all_ways-complete s t w i j c d h)) in
    IsIn-Any (λ x. way_of x.way ≡ w) ds r.0 r.1 (ap (λ f. f.way) (sym r.2))

-- a derivation isn't preferred to itself
not_itself : (d : Derivation) → IsPreferredTo d d → ⊥
not_itself d h =
    greater_not_less (sym (ap ordering_reverse h) ∙ sym (preference_back (way_of d.way) d.to (way_of d.way) d.to) ∙ h)

only : (d x : Derivation) → IsIn x (d ∷ []) → IsPreferredTo x d → ⊥
only d x (inl e) h = not_itself d (subst (λ y. IsPreferredTo y d) e h)
only d x (inr g) h = absurd g

-- the first derivation is one to which none is preferred
pub first_is_best : (d : Derivation) → IsMostPreferred (d ∷ []) d
first_is_best d = (
  IsIn-Contains (d ∷ []) d (inl refl),
  λ s t i c are. All-each (λ x. IsPreferredTo x d → ⊥) (d ∷ []) (only d),
)

-- derivations and one more are derivations
all_left : {X : Type 0} (P : X → Type 0) (xs : List X) (y : X) → All P (xs ++ y ∷ []) → All P xs
all_left P xs y a = All-each P xs (λ x h. All-IsIn P (xs ++ y ∷ []) x a (IsIn-append_left x xs (y ∷ []) h))

all_last : {X : Type 0} (P : X → Type 0) (xs : List X) (y : X) → All P (xs ++ y ∷ []) → P y
all_last P xs y a = All-IsIn P (xs ++ y ∷ []) y a (IsIn-append_right y xs (y ∷ []) (inl refl))

-- one more derivation, to which the best so far isn't preferred
pub best_stays : (ds : List Derivation) (best one : Derivation) → IsMostPreferred ds best → (IsPreferredTo one best → ⊥)
    → IsMostPreferred (ds ++ one ∷ []) best
best_stays ds best one h not_preferred = (
  IsIn-Contains (ds ++ one ∷ []) best (IsIn-append_left best ds (one ∷ []) (Contains-IsIn ds best h.0)),
  λ s t i c are. All-push (λ x. IsPreferredTo x best → ⊥) ds one
      (h.1 s t i c (all_left (λ d. Derives s t (way_of d.way) i d.to c
      (captures_of d.captures)) ds one are)) not_preferred,
)

-- one more derivation, which is preferred to the best so far
pub best_changes : (ds : List Derivation) (best one : Derivation) → IsMostPreferred ds best → IsPreferredTo one best
    → IsMostPreferred (ds ++ one ∷ []) one
best_changes ds best one h preferred = (
  IsIn-Contains (ds ++ one ∷ []) one (IsIn-append_right one ds (one ∷ []) (inl refl)),
  λ s t i c are. All-push (λ x. IsPreferredTo x one → ⊥) ds one
      (All-each (λ x. IsPreferredTo x one → ⊥) ds (λ x g p.
      let before = all_left (λ d. Derives s t (way_of d.way) i d.to c (captures_of d.captures)) ds one are in
      All-IsIn (λ x. IsPreferredTo x best → ⊥) ds x (h.1 s t i c before) g
      (preference_leads_on s t (way_of x.way) (way_of one.way) (way_of best.way) i x.to one.to best.to c
      (captures_of x.captures) (captures_of one.captures) (captures_of best.captures)
      (All-IsIn (λ d. Derives s t (way_of d.way) i d.to c (captures_of d.captures)) ds x before g)
      (all_last (λ d. Derives s t (way_of d.way) i d.to c (captures_of d.captures)) ds one are)
      (All-IsIn (λ d. Derives s t (way_of d.way) i d.to c (captures_of d.captures)) ds best before
      (Contains-IsIn ds best h.0))
      p preferred)))
      (not_itself one),
)

-- THE HIT

-- nothing is listed where nothing derives
pub none_derives : (s : List ℕ) (t : Tree) (i : ℕ) (c : Captures) (ds : List Derivation) → AreAllDerivations s t i c ds
    → ds ≡ [] → (w : Way) (j : ℕ) (e : Captures) → Derives s t w i j c e → ⊥
none_derives s t i c ds all e w j d h =
    let some = all w j d h in
    let size : length ds ≡ 0 = ap length e in
    absurd (omega (arith, some.2))

not_preferred : (s : List ℕ) (t : Tree) (i : ℕ) (ds : List Derivation) (best : Derivation)
    → AreDerivations s t i empty ds → AreAllDerivations s t i empty ds → IsMostPreferred ds best
    → (k : ℕ) (v : Way) (d : Captures) → Derives s t v i k empty d → IsPreferred v k (way_of best.way) best.to → ⊥
not_preferred s t i ds best are all most k v d h p =
    let some = all v k d h in
    let x = some.1 in
    let listed : Contains ds x = (some.0, some.2, some.3) in
    let shows : Derives s t v i x.to empty (captures_of x.captures) =
    subst (λ w. Derives s t w i x.to empty (captures_of x.captures)) some.4
    (All-IsIn (λ d. Derives s t (way_of d.way) i d.to empty (captures_of d.captures)) ds x are
    (Contains-IsIn ds x listed)) in
    let end : k ≡ x.to = (one_end s t v i k x.to empty d (captures_of x.captures) h shows).0 in
    All-IsIn (λ y. IsPreferredTo y best → ⊥) ds x (most.1 s t i empty are) (Contains-IsIn ds x listed)
    ((λ n. preference (some.4 n) (sym end n) (way_of best.way) best.to) ∙ p)

pub hit_here : (s : List ℕ) (t : Tree) (i : ℕ) (ds : List Derivation) (best : Derivation)
    → ((h k : ℕ) (v : Way) (d : Captures) → h < i → Derives s t v h k empty d → ⊥)
    → AreDerivations s t i empty ds → AreAllDerivations s t i empty ds → IsMostPreferred ds best
    → IsHit s t i best.to (captures_of best.captures)
hit_here s t i ds best before are all most =
    record {
      way = way_of best.way;
      shows = All-IsIn (λ d. Derives s t (way_of d.way) i d.to empty (captures_of d.captures)) ds best are
          (Contains-IsIn ds best most.0);
      leftmost = before;
      preferred = λ k v d h p. not_preferred s t i ds best are all most k v d h p;
    }

-- no derivation begins before a place or at it
pub none_before : (s : List ℕ) (t : Tree) (i : ℕ) → HasNoHitBefore s t i
    → ((k : ℕ) (v : Way) (d : Captures) → Derives s t v i k empty d → ⊥) → HasNoHitBefore s t (i + 1)
none_before s t i before here h k v d low shows = elim (cases_lt h i) [
  | inl lower ↦ before h k v d lower shows
  | inr upper ↦
      let at : h ≡ i = omega arith in here k v d (subst (λ n. Derives s t v n k empty d) at shows)
]

-- the preferred of all derivations from a place is the hit, where none begins before it
pub here_or_none : (s : List ℕ) (t : Tree) (i : ℕ) (ds : List Derivation) (best : Option Derivation) → HasNoHitBefore s t i
    → AreDerivations s t i empty ds → AreAllDerivations s t i empty ds
    → MatchOption best (ds ≡ []) (IsMostPreferred ds)
    → MatchOption best (HasNoHitBefore s t (i + 1)) (λ d. IsHit s t i d.to (captures_of d.captures))
here_or_none s t i ds None before are all most =
    none_before s t i before (λ k v d shows. none_derives s t i empty ds all most v k d shows)
here_or_none s t i ds (Some best) before are all most = hit_here s t i ds best before are all most

-- a hit lies in its slice
pub hit_within : (s : List ℕ) (t : Tree) (i j : ℕ) (c : Captures) → IsHit s t i j c → IsPart s i j
hit_within s t i j c h = is_part s t h.way i j empty c h.shows

-- so its offsets, and those of its groups, are numbers of the program where the slice's length is
pub hit_fits : (s : List ℕ) (t : Tree) (from i j : ℕ) (c : Captures) → from + length s < 2 ^ 64 → IsHit s t i j c
    → FitBehind from c
hit_fits s t from i j c fits h n p e =
    let lies = captures_lie_in s t h.way i j empty c (empty_lies_in s) h.shows n p e in
    (omega (arith, fits, lies.0, lies.1), omega (arith, fits, lies.1))

-- and it's told with offsets of a text in which the slice begins
pub hit_told : (text s : List ℕ) (t : Tree) (from i j : ℕ) (c : Captures) (groups : List (Option Cap))
    → IsHit s t i j c → groups ≡ caps_of from c (greatest_group t) → drop from text ≡ s
    → TellsHit text t from (record { from = from + i; to = from + j; groups = groups })
hit_told text s t from i j c groups h are same =
    let start : i ≡ from + i - from = omega arith in
    let end : j ≡ from + j - from = omega arith in
    record {
      captures = c;
      behind = omega arith;
      ordered = omega (arith, (hit_within s t i j c h).0);
      is_hit = subst (λ (x : List ℕ). IsHit x t (from + i - from) (from + j - from) c) (sym same)
          (subst (λ (n : ℕ). IsHit s t n (from + j - from) c) start (subst (λ (n : ℕ). IsHit s t i n c) end h));
      groups = are;
    }
