-- There is at most one hit.
use Rattle.std.proofs.Common.{◌≡◌, ℕ, List, refl, sym, ap, ◌∙◌, subst, inl, inr, arith}
use Rattle.std.proofs.lemmas.Bool.{cases_lt}
use Rattle.std.specs.FinMap.{empty}
use Rattle.std.specs.Ordering.{ordering_reverse}
use Rattle.std.specs.declared.cmp.Ordering.{Ordering}
use Rattle.std.specs.declared.cmp.Ordering.TheVariants.{Less, Equal, Greater}
use Rattle.ere_tree.specs.Tree.{Tree}
use Rattle.ere_tree.specs.Captures.{Captures}
use Rattle.ere_tree.specs.Derivation.{Way, Derives}
use Rattle.ere_tree.specs.Preference.{preference, IsPreferred}
use Rattle.ere_tree.specs.Hit.{IsHit, HitIsOne}
use Rattle.ere_tree.proofs.PreferenceLemmas.{preference_back, one_head, same_way}

-- of two starts with derivations from which there is none further left, neither is further left
same_start : (s : List ℕ) (t : Tree) (i j h k : ℕ) (c d : Captures) → IsHit s t i j c → IsHit s t h k d → i ≡ h
same_start s t i j h k c d a b =
    elim (cases_lt i h) [
      | inl lower ↦ absurd (b.leftmost i j a.way c lower a.shows)
      | inr upper ↦
          elim (cases_lt h i) [
            | inl above ↦ absurd (a.leftmost h k b.way d above b.shows)
            | inr equal ↦ omega arith
          ]
    ]

-- two derivations from one start, of which neither is preferred, have one end and leave the same captures
same_end : (s : List ℕ) (t : Tree) (w v : Way) (i j k : ℕ) (c d : Captures) (o : Ordering) → preference w j v k ≡ o
    → Derives s t w i j empty c → Derives s t v i k empty d
    → (IsPreferred w j v k → ⊥) → (IsPreferred v k w j → ⊥) → (j ≡ k) × (c ≡ d)
same_end s t w v i j k c d Less e h g first second = absurd (first e)
same_end s t w v i j k c d Equal e h g first second =
    let one = one_head s t w v i j k empty c d (λ n a b. same_way s t w v i n empty a b) h g e in
    (sym one.1, sym one.2)
same_end s t w v i j k c d Greater e h g first second =
    absurd (second (preference_back w j v k ∙ ap ordering_reverse e))

pub hit_is_one : HitIsOne
hit_is_one s t i j h k c d a b =
    let start : i ≡ h = same_start s t i j h k c d a b in
    let here : Derives s t b.way i k empty d = subst (λ n. Derives s t b.way n k empty d) (sym start) b.shows in
    let there : Derives s t a.way h j empty c = subst (λ n. Derives s t a.way n j empty c) start a.shows in
    let end = same_end s t a.way b.way i j k c d (preference a.way j b.way k) refl a.shows here
    (b.preferred j a.way c there) (a.preferred k b.way d here) in
    (start, end.0, end.1)
