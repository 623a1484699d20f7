-- The value is the hit: of the derivations from one place the best so far is followed down the list, and places are
-- followed from the left.
-- The hard one is `best_is`: the best of derivations stays one to which none is preferred, since preference leads on.
use Rattle.std.proofs.Common.{◌≡◌, ℕ, zero, suc, ◌+◌, ◌-◌, ◌<◌, ◌≤◌, Bool, true, false, true≢false, if◌then◌else◌, Option, Some, None, IfSome, List, [], ◌∷◌, ◌++◌, length, drop, refl, sym, ap, ◌∙◌, subst, inl, inr, ◌⊎◌, arith, append_assoc, append-nil}
use Rattle.std.proofs.lemmas.List.{length-drop}
use Rattle.std.proofs.lemmas.Option.{none-some}
use Rattle.std.specs.FinMap.{empty}
use Rattle.std.specs.Option.{option_map}
use Rattle.std.specs.Ordering.{is_lt, ordering_reverse}
use Rattle.std.specs.declared.cmp.Ordering.{Ordering}
use Rattle.std.specs.declared.cmp.Ordering.TheVariants.{Less, Equal, Greater}
use Rattle.ere_hit.specs.Value.{Alike, HitIsValue, IsSame, LiesIn, ValueIsHit, ValueIsOne, ValueLies, best, best_of, first_found, found_at, hit_in, is_preferred, told}
use Rattle.ere_slow.specs.Listing.{Found, all_ways}
use Rattle.ere_slow.proofs.ListingLemmas.{all_ways-sound, all_ways-complete}
use Rattle.ere_slow.proofs.MembershipLemmas.{IsIn, IsIn-append_left, IsIn-append_right, IsIn-append_cases}
use Rattle.ere_slow.proofs.SlowLemmas.{hit_told, hit_within}
use Rattle.ere_tree.proofs.HitLemmas.{hit_is_one}
use Rattle.ere_tree.proofs.DerivationLemmas.{is_part}
use Rattle.ere_tree.proofs.PreferenceLemmas.{preference_back, preference_leads_on, greater_not_less}
use Rattle.ere_tree.specs.Captures.{Captures, caps_of}
use Rattle.ere_tree.specs.Derivation.{Way, Derives}
use Rattle.ere_tree.specs.Hit.{FindsHit, IsHit}
use Rattle.ere_tree.specs.Preference.{IsPreferred}
use Rattle.ere_tree.specs.Shape.{greatest_group}
use Rattle.ere_tree.specs.Tree.{Tree}
use Rattle.ere_tree.specs.declared.hit.Hit.{Hit}

-- the first derivation is preferred to the second
abbrev Precedes : Found → Found → Type 0
Precedes f g = IsPreferred f.way f.to g.way g.to

-- one of derivations to which none of them is preferred
abbrev IsBest : List Found → Found → Type 0
IsBest fs b = IsIn b fs × ((x : Found) → IsIn x fs → Precedes x b → ⊥)

-- derivations of one tree, from one place and with the same captures
abbrev AreDerived : List ℕ → Tree → ℕ → Captures → List Found → Type 0
AreDerived s t i c fs = (x : Found) → IsIn x fs → Derives s t x.way i x.to c x.captures

not_itself : (f : Found) → Precedes f f → ⊥
not_itself f h =
    greater_not_less (sym (ap ordering_reverse h) ∙ sym (preference_back f.way f.to f.way f.to) ∙ h)

last_is : (x g : Found) → IsIn x (g ∷ []) → x ≡ g
last_is x g (inl e) = e
last_is x g (inr h) = absurd h

stays : (fs : List Found) (b g : Found) → IsBest fs b → (Precedes g b → ⊥) → IsBest (fs ++ g ∷ []) b
stays fs b g h not = (
  IsIn-append_left b fs (g ∷ []) h.0,
  λ x is p. elim (IsIn-append_cases x fs (g ∷ []) is) [
    | inl a ↦ h.1 x a p
    | inr a ↦ not (subst (λ y. Precedes y b) (last_is x g a) p)
  ],
)

changes : (s : List ℕ) (t : Tree) (i : ℕ) (c : Captures) (fs : List Found) (b g : Found)
    → AreDerived s t i c (fs ++ g ∷ []) → IsBest fs b → Precedes g b → IsBest (fs ++ g ∷ []) g
changes s t i c fs b g are h before = (
  IsIn-append_right g fs (g ∷ []) (inl refl),
  λ x is p. elim (IsIn-append_cases x fs (g ∷ []) is) [
    | inl a ↦ h.1 x a (preference_leads_on s t x.way g.way b.way i x.to g.to b.to c x.captures g.captures b.captures
        (are x is) (are g (IsIn-append_right g fs (g ∷ []) (inl refl))) (are b (IsIn-append_left b fs (g ∷ []) h.0))
        p before)
    | inr a ↦ not_itself g (subst (λ y. Precedes y g) (last_is x g a) p)
  ],
)

is_less : (o : Ordering) → is_lt o ≡ true → o ≡ Less
is_less Less e = refl
is_less Equal e = absurd (true≢false (sym e))
is_less Greater e = absurd (true≢false (sym e))

one_more : (s : List ℕ) (t : Tree) (i : ℕ) (c : Captures) (fs : List Found) (b g : Found) (yes : Bool)
    → is_preferred g b ≡ yes → AreDerived s t i c (fs ++ g ∷ []) → IsBest fs b
    → IsBest (fs ++ g ∷ []) (if yes then g else b)
one_more s t i c fs b g true e are h = changes s t i c fs b g are h (is_less _ e)
one_more s t i c fs b g false e are h = stays fs b g h (λ p. true≢false (sym (ap is_lt p) ∙ e))

best_is : (s : List ℕ) (t : Tree) (i : ℕ) (c : Captures) (fs : List Found) (b : Found) (more : List Found)
    → AreDerived s t i c (fs ++ more) → IsBest fs b → IsBest (fs ++ more) (best b more)
best_is s t i c fs b [] are h = subst (λ l. IsBest l b) (sym (append-nil fs)) h
best_is s t i c fs b (g ∷ more) are h =
    let same : (fs ++ g ∷ []) ++ more ≡ fs ++ g ∷ more = append_assoc fs (g ∷ []) more in
    let all : AreDerived s t i c ((fs ++ g ∷ []) ++ more) = subst (AreDerived s t i c) (sym same) are in
    let these : AreDerived s t i c (fs ++ g ∷ []) = λ x is. all x (IsIn-append_left x (fs ++ g ∷ []) more is) in
    subst (λ l. IsBest l (best b (g ∷ more))) same
    (best_is s t i c (fs ++ g ∷ []) (if is_preferred g b then g else b) more all
    (one_more s t i c fs b g (is_preferred g b) refl these h))

-- ONE PLACE

some_is : {X : Type 0} (x y : X) → Some x ≡ Some y → x ≡ y
some_is x y e = search (e)

best_found : (s : List ℕ) (t : Tree) (i : ℕ) (c : Captures) (fs : List Found) → AreDerived s t i c fs → (f : Found)
    → best_of fs ≡ Some f → IsBest fs f
best_found s t i c [] are f e = absurd (none-some f e)
best_found s t i c (g ∷ fs) are f e =
    subst (IsBest (g ∷ fs)) (some_is _ _ e)
    (best_is s t i c (g ∷ []) g fs are
    (inl refl, λ x is p. not_itself g (subst (λ y. Precedes y g) (last_is x g is) p)))

best_none : (fs : List Found) → best_of fs ≡ None → fs ≡ []
best_none [] e = refl
best_none (f ∷ fs) e = absurd (none-some (best f fs) (sym e))

-- nothing derives from the places before one
abbrev NoneBefore : List ℕ → Tree → ℕ → Type 0
NoneBefore s t place = (h k : ℕ) (v : Way) (d : Captures) → h < place → Derives s t v h k empty d → ⊥

hit_here : (s : List ℕ) (t : Tree) (i : ℕ) (f : Found) → best_of (all_ways s t i empty) ≡ Some f → NoneBefore s t i
    → IsHit s t i f.to f.captures
hit_here s t i f e before =
    let best = best_found s t i empty (all_ways s t i empty) (all_ways-sound s t i empty) f e in
    record {
      way = f.way;
      shows = all_ways-sound s t i empty f best.0;
      leftmost = before;
      preferred = λ k v d shows p. best.1 _ (all_ways-complete s t v i k empty d shows) p;
    }

split : (h i : ℕ) → h < i + 1 → (h < i) ⊎ (h ≡ i)
split zero zero b = inr refl
split zero (suc i) b = inl (omega arith)
split (suc h) zero b = absurd (omega (arith, b))
split (suc h) (suc i) b = elim (split h i (omega (arith, b))) [
  | inl a ↦ inl (omega (arith, a))
  | inr e ↦ inr (ap suc e)
]

none_next : (s : List ℕ) (t : Tree) (i : ℕ) → NoneBefore s t i → best_of (all_ways s t i empty) ≡ None
    → NoneBefore s t (i + 1)
none_next s t i before e h k v d b shows = elim (split h i b) [
  | inl a ↦ before h k v d a shows
  | inr is ↦ subst (IsIn _) (best_none _ e) (all_ways-complete s t v i k empty d
      (subst (λ n. Derives s t v n k empty d) is shows))
]

-- PLACE BY PLACE

-- what is found says: a hit, or that nothing derives before a bound
abbrev Answers : List ℕ → Tree → ℕ → Option (ℕ × Found) → Type 0
Answers s t bound None = NoneBefore s t bound
Answers s t bound (Some p) = IsHit s t p.0 p.1.to p.1.captures

answers_at : (s : List ℕ) (t : Tree) (i bound : ℕ) (here : Option Found) (elsewhere : Option (ℕ × Found))
    → best_of (all_ways s t i empty) ≡ here → NoneBefore s t i
    → (NoneBefore s t (i + 1) → Answers s t bound elsewhere) → Answers s t bound (found_at i here elsewhere)
answers_at s t i bound (Some f) elsewhere e before more = hit_here s t i f e before
answers_at s t i bound None elsewhere e before more = more (none_next s t i before e)

first_is : (s : List ℕ) (t : Tree) (left i bound : ℕ) → bound ≤ i + left + 1 → NoneBefore s t i
    → Answers s t bound (first_found s t left i)
first_is s t zero i bound b before =
    answers_at s t i bound _ None refl before (λ none h k v d a shows. none h k v d (omega (arith, a, b)) shows)
first_is s t (suc left) i bound b before =
    answers_at s t i bound _ (first_found s t left (i + 1)) refl before
    (λ none. first_is s t left (i + 1) bound (omega (arith, b)) none)

all_is : (s : List ℕ) (t : Tree) → Answers s t (length s + 1) (first_found s t (length s) 0)
all_is s t = first_is s t (length s) 0 (length s + 1) (omega arith) (λ h k v d b shows. absurd (omega (arith, b)))

-- THE LAWS

told_is : (text : List ℕ) (t : Tree) (from : ℕ) (o : Option (ℕ × Found))
    → Answers (drop from text) t (length (drop from text) + 1) o → FindsHit text t from (option_map (told t from) o)
told_is text t from None none = λ h k v d shows.
    let part = is_part (drop from text) t v h k empty d shows in none h k v d (omega (arith, part.0, part.1)) shows
told_is text t from (Some p) is =
    hit_told text (drop from text) t from p.0 p.1.to p.1.captures (caps_of from p.1.captures (greatest_group t)) is refl
    refl

pub value_is_hit : ValueIsHit
value_is_hit text t from = told_is text t from _ (all_is (drop from text) t)

alike : (text : List ℕ) (t : Tree) (from : ℕ) (hit : Option Hit) (o : Option (ℕ × Found)) → FindsHit text t from hit
    → Answers (drop from text) t (length (drop from text) + 1) o → Alike from hit (option_map (told t from) o)
alike text t from None None finds is = tt
alike text t from None (Some p) finds is = finds p.0 p.1.to is.way p.1.captures is.shows
alike text t from (Some hit) None finds is =
    told_is text t from None is _ _ finds.is_hit.way finds.captures finds.is_hit.shows
alike text t from (Some hit) (Some p) finds is =
    let one = hit_is_one (drop from text) t (hit.from - from) (hit.to - from) p.0 p.1.to finds.captures p.1.captures
    finds.is_hit is in
    let part = hit_within (drop from text) t p.0 p.1.to p.1.captures is in
    record {
      start = omega (arith, finds.behind, one.0);
      count = omega (arith, finds.behind, one.0, one.1, part.0);
      reach = λ n b. omega (arith, one.1, b);
      groups = finds.groups ∙ ap (λ c. caps_of from c (greatest_group t)) one.2;
    }

pub value_is_one : ValueIsOne
value_is_one text t from hit finds = alike text t from hit _ finds (all_is (drop from text) t)

-- hits that end at or behind their starts are equal where they are the same
one_hit : (from : ℕ) (a b : Hit) → a.from ≤ a.to → b.from ≤ b.to → IsSame from a b → a ≡ b
one_hit from a b first second same =
    let ends : a.to ≡ b.to = omega (arith, first, second, same.start, same.count) in
    λ i. record { from = same.start i; to = ends i; groups = same.groups i }

equal : (text : List ℕ) (t : Tree) (from : ℕ) (a b : Option Hit) → FindsHit text t from a → FindsHit text t from b
    → Alike from a b → a ≡ b
equal text t from None None first second same = refl
equal text t from None (Some b) first second same = absurd same
equal text t from (Some a) None first second same = absurd same
equal text t from (Some a) (Some b) first second same =
    ap Some (one_hit from a b first.ordered second.ordered same)

pub hit_is_value : HitIsValue
hit_is_value text t from hit finds =
    equal text t from hit (hit_in text t from) finds (value_is_hit text t from) (value_is_one text t from hit finds)

lies : (text : List ℕ) (t : Tree) (from : ℕ) (o : Option (ℕ × Found)) → from ≤ length text
    → Answers (drop from text) t (length (drop from text) + 1) o
    → IfSome (option_map (told t from) o) (LiesIn from (length text))
lies text t from None inside is = tt
lies text t from (Some p) inside is =
    let part = hit_within (drop from text) t p.0 p.1.to p.1.captures is in
    record {
      behind = omega arith;
      ordered = omega (part.0, arith);
      within = omega (part.1, length-drop from text, inside, arith);
    }

pub value_lies : ValueLies
value_lies text t from inside = lies text t from _ inside (all_is (drop from text) t)
