-- One expression over a part: a reference, what its ends tell, and how large a tree is.
-- A reference has one way alone, and an expression whose ends are known has one where it ends.
-- The hard one is `back_ends`: a reference ends as far behind its start as its group is long.
use Rattle.std.proofs.Common.{◌≡◌, ℕ, zero, suc, ◌+◌, ◌<◌, ◌≤◌, ◌&&◌, Bool, true, false, Option, Some, None, List, [], ◌∷◌, length, map, get_or, refl, sym, ap, ◌∙◌, subst, arith, true≢false, eq-eqb}
use Rattle.std.specs.Prelude.{not}
use Rattle.std.proofs.lemmas.Option.{none-some}
use Rattle.std.specs.FinMap.{get}
use Rattle.ere_captures.proofs.BestLemmas.{equal_not_less}
use Rattle.ere_places.specs.declared.seen.Seen.{Seen}
use Rattle.ere_tree.proofs.CapturesLemmas.{some_same}
use Rattle.ere_tree.proofs.DerivationLemmas.{length-part, same_length}
use Rattle.ere_tree.specs.Captures.{Captures, caps_of}
use Rattle.ere_tree.specs.Derivation.{Way, leaf, parts, members, chosen, inside, Derives, Spans, part}
use Rattle.ere_tree.specs.Shape.{has_refs}
use Rattle.ere_tree.specs.Tree.{Tree, back, trees_of}
use Rattle.ere_tree.specs.View.{view}
use Rattle.ere_tree.specs.declared.ere.Ere.{Ere}
use Rattle.ere_tree.specs.declared.hit.Cap.{Cap}
use Rattle.ere_refs.specs.Machine.{nodes, nodes_of}
use Rattle.ere_refs.specs.Over.{AreEnds, DerivesNone, HasEnds, IsBestFrom, RefersTo, is_known, may_be}
use Rattle.ere_refs.specs.declared.ends.Ends.{Ends}
use Rattle.ere_refs.specs.declared.ends.Ends.TheVariants.{Any, Held, Only}

-- TESTS

pub both_left : (a b : Bool) → (a && b) ≡ true → a ≡ true
both_left true b e = refl
both_left false b e = e

pub both_right : (a b : Bool) → (a && b) ≡ true → b ≡ true
both_right true b e = e
both_right false b e = absurd (true≢false (sym e))

pub not_true : (a : Bool) → not a ≡ true → a ≡ false
not_true false e = refl
not_true true e = absurd (true≢false (sym e))

pub not_so : (a : Bool) → (a ≡ true → ⊥) → a ≡ false
not_so false e = refl
not_so true e = absurd (e refl)

-- REFERENCES

pub back_best : (s : List ℕ) (n : ℕ) (fold : Bool) (i j : ℕ) (c : Captures) → IsBestFrom s (back n fold) leaf i j c
back_best s n fold i j c leaf d h e = equal_not_less e
back_best s n fold i j c (inside v) d h e = absurd h
back_best s n fold i j c (parts vs) d h e = absurd h
back_best s n fold i j c (members vs) d h e = absurd h
back_best s n fold i j c (chosen k v) d h e = absurd h

pub back_none : (s : List ℕ) (n : ℕ) (fold : Bool) (start i j : ℕ) (old : List (Option Cap)) (answer : Bool) (c : Captures)
    → RefersTo s start i j n fold old answer → answer ≡ false → old ≡ caps_of start c (length old)
    → DerivesNone s (back n fold) i j c
back_none s n fold start i j old answer c refers nothing is leaf d h =
    true≢false (sym ((refers c is).1 (h.0, h.1, h.3)) ∙ nothing)
back_none s n fold start i j old answer c refers nothing is (inside v) d h = absurd h
back_none s n fold start i j old answer c refers nothing is (parts vs) d h = absurd h
back_none s n fold start i j old answer c refers nothing is (members vs) d h = absurd h
back_none s n fold start i j old answer c refers nothing is (chosen k v) d h = absurd h

-- a reference leaves what groups hold as it was
pub back_same : (s : List ℕ) (n : ℕ) (fold : Bool) (v : Way) (i j : ℕ) (c d : Captures) → Derives s (back n fold) v i j c d
    → (m : ℕ) → get d m ≡ get c m
back_same s n fold leaf i j c d h m = ap (λ x. get x m) h.4
back_same s n fold (inside v) i j c d h m = absurd h
back_same s n fold (parts vs) i j c d h m = absurd h
back_same s n fold (members vs) i j c d h m = absurd h
back_same s n fold (chosen k v) i j c d h m = absurd h

-- ENDS

only_end : (only m : ℕ) → may_be (Only only) m ≡ false → m ≡ only → ⊥
only_end only m nothing same = true≢false (sym (eq-eqb only m (sym same)) ∙ nothing)

-- a place that is no end
pub not_end : (s : List ℕ) (t : Tree) (start i j k count : ℕ) (old : List (Option Cap)) (ends : Ends)
    → AreEnds s t start i k count old ends → j ≤ k → may_be ends j ≡ false → (c : Captures) → old ≡ caps_of start c count
    → DerivesNone s t i j c
not_end s t start i j k count old (Held seen last) are low nothing c is v d h =
    true≢false (sym ((are.1 j).1 ((v, c, d, h), low)) ∙ nothing)
not_end s t start i j k count old (Only only) are low nothing c is v d h = only_end only j nothing (are c is v j d h)
not_end s t start i j k count old Any are low nothing c is v d h = true≢false nothing

-- an end of an expression without references
pub held_end : (s : List ℕ) (t : Tree) (start i j count : ℕ) (old : List (Option Cap)) (ends : Ends) (seen : Seen) (last : ℕ)
    → HasEnds s t start i j count old ends → ends ≡ Held seen last → may_be ends j ≡ true
    → (has_refs t ≡ false) × Spans s t i j
held_end s t start i j count old ends seen last are is holds =
    let known = subst (HasEnds s t start i j count old) is are in
    (known.2.0, ((known.2.1 j).0 (sym (ap (λ e. may_be e j) is) ∙ holds)).0)

-- an end that is known for one
pub known_end : (s : List ℕ) (t : Tree) (start i j count : ℕ) (old : List (Option Cap)) (ends : Ends)
    → HasEnds s t start i j count old ends → is_known ends ≡ true → may_be ends j ≡ true → Spans s t i j
known_end s t start i j count old (Held seen last) are known may =
    (held_end s t start i j count old (Held seen last) seen last are refl may).1
known_end s t start i j count old (Only only) are known may = absurd (true≢false (sym known))
known_end s t start i j count old Any are known may = absurd (true≢false (sym known))

-- where a reference ends
pub back_ends : (s : List ℕ) (n : ℕ) (fold : Bool) (start i : ℕ) (old : List (Option Cap)) (held : List ℕ) (end : ℕ)
    → ((c : Captures) → old ≡ caps_of start c (length old)
    → (p : ℕ × ℕ) × (get c n ≡ Some p) × (held ≡ part s p.0 p.1))
    → ((k : ℕ) → k ≤ length s → k ≡ i + length held → k ≡ end) → (c : Captures) → old ≡ caps_of start c (length old)
    → (w : Way) (k : ℕ) (d : Captures) → Derives s (back n fold) w i k c d → k ≡ end
back_ends s n fold start i old held end told ends c is leaf k d h =
    let b = told c is in
    let same : b.0 ≡ h.0 = some_same b.0 h.0 (sym b.1 ∙ h.1) in
    let long : length (part s i k) ≡ length held =
    same_length fold (part s i k) (part s h.0.0 h.0.1) h.3
    ∙ ap length (sym (b.2 ∙ ap (λ (p : ℕ × ℕ). part s p.0 p.1) same)) in
    ends k h.2.1 (omega (arith, long, length-part s i k h.2.0 h.2.1, h.2.0))
back_ends s n fold start i old held end told ends c is (inside v) k d h = absurd h
back_ends s n fold start i old held end told ends c is (parts vs) k d h = absurd h
back_ends s n fold start i old held end told ends c is (members vs) k d h = absurd h
back_ends s n fold start i old held end told ends c is (chosen m v) k d h = absurd h

pub back_nowhere : (s : List ℕ) (n : ℕ) (fold : Bool) (start i : ℕ) (old : List (Option Cap)) (end : ℕ)
    → ((c : Captures) → old ≡ caps_of start c (length old) → get c n ≡ None) → (c : Captures)
    → old ≡ caps_of start c (length old) → (w : Way) (k : ℕ) (d : Captures) → Derives s (back n fold) w i k c d → k ≡ end
back_nowhere s n fold start i old end unset c is leaf k d h = absurd (none-some h.0 (sym (unset c is) ∙ h.1))
back_nowhere s n fold start i old end unset c is (inside v) k d h = absurd h
back_nowhere s n fold start i old end unset c is (parts vs) k d h = absurd h
back_nowhere s n fold start i old end unset c is (members vs) k d h = absurd h
back_nowhere s n fold start i old end unset c is (chosen m v) k d h = absurd h

-- HOW LARGE A TREE IS

-- one of some trees is smaller than all of them
pub nodes_at : (items : List Ere) (k : ℕ) (one : Ere) → k < length items → one ≡ get_or items k one
    → nodes (view one) < nodes_of (trees_of (map view items))
nodes_at [] k one low is = absurd (omega arith)
nodes_at (e ∷ items) zero one low is =
    let same : nodes (view one) ≡ nodes (view e) = ap (λ x. nodes (view x)) is in
    omega (arith, same)
nodes_at (e ∷ items) (suc k) one low is = let rest = nodes_at items k one (omega arith) is in omega (arith, rest)
