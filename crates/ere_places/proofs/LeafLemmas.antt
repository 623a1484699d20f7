-- Where an expression with nothing inside (bytes, a set, an anchor, the empty one) leads from a place, either way.
-- A leaf's span is told by a test of the bytes at one end, which has at most one other end.
-- The hard ones are `leads_plain` and `still`, a leaf that takes bytes and one that takes none.
use Rattle.std.proofs.Common.{◌≡◌, ◌↔◌, ℕ, ◌+◌, ◌<◌, ◌≤◌, IsTrue, Option, Some, None, List, length, slice_index, refl, sym, ap, ◌∙◌, subst, arith}
use Rattle.std.specs.List.{Contains}
use Rattle.std.specs.FinMap.{empty}
use Rattle.ere_tree.specs.Tree as trees
use Rattle.ere_tree.specs.Derivation.{leaf, IsPart, part, is_line_start, is_line_end, Spans}
use Rattle.std.proofs.lemmas.Option.{none-some}
use Rattle.ere_tree.proofs.CapturesLemmas.{some_same}
use Rattle.ere_tree.proofs.DerivationLemmas.{length-part}
use Rattle.ere_tree.proofs.PartsLemmas.{plain_out, set_out}
use Rattle.ere_places.specs.declared.window.Direction.{Direction}
use Rattle.ere_places.specs.declared.window.Direction.TheVariants.{Ahead, Back}
use Rattle.ere_places.specs.declared.window.Window.{Window}
use Rattle.ere_places.specs.Places.{IsInside, OtherEnd, Leads, LeadsInside}

plain_span : (s bytes : List ℕ) (i j : ℕ) → Spans s (trees.plain bytes) i j
    → IsPart s i j × (part s i j ≡ bytes) × (j ≡ i + length bytes)
plain_span s bytes i j (w, c, d, h) =
    let r = plain_out s bytes w i j c d h in
    (r.0, r.1, omega (arith, length-part s i j r.0.0 r.0.1, ap length r.1, r.0.0))

pub plain_leads : (s bytes : List ℕ) (window : Window) (p q : ℕ) → IsInside window p → window.high ≤ length s
    → LeadsInside s (trees.plain bytes) window p q
    → (start : ℕ) × OtherEnd window.direction window p (length bytes) start q
    × (part s start (start + length bytes) ≡ bytes)
plain_leads s bytes window p q inside fits h = each window.direction h.0
  where
    each : (d : Direction) → Leads s (trees.plain bytes) d p q
        → (start : ℕ) × OtherEnd d window p (length bytes) start q × (part s start (start + length bytes) ≡ bytes)
    each Ahead span =
        let r = plain_span s bytes p q span in
        (p, (refl, r.2, h.1.1), ap (λ n. part s p n) (sym r.2) ∙ r.1)
    each Back span =
        let r = plain_span s bytes q p span in
        (q, (refl, sym r.2, h.1.0), ap (λ n. part s q n) (sym r.2) ∙ r.1)

pub leads_plain : (s bytes : List ℕ) (window : Window) (p q start : ℕ) → IsInside window p → window.high ≤ length s
    → OtherEnd window.direction window p (length bytes) start q → part s start (start + length bytes) ≡ bytes
    → LeadsInside s (trees.plain bytes) window p q
leads_plain s bytes window p q start inside fits h is = each window.direction h
  where
    each : (d : Direction) → OtherEnd d window p (length bytes) start q
        → Leads s (trees.plain bytes) d p q × IsInside window q
    each Ahead (same, end, within) =
        let here : part s p q ≡ bytes =
        ap (λ n. part s p n) end ∙ ap (λ n. part s n (n + length bytes)) (sym same) ∙ is in
        ((leaf, empty, empty, ((omega arith, omega arith), here, refl)), (omega arith, within))
    each Back (same, end, within) =
        let here : part s q p ≡ bytes =
        ap (λ n. part s q n) (sym end) ∙ ap (λ n. part s n (n + length bytes)) (sym same) ∙ is in
        ((leaf, empty, empty, ((omega arith, omega arith), here, refl)), (within, omega arith))

set_span : (s bytes : List ℕ) (i j : ℕ) → Spans s (trees.set bytes) i j
    → (j ≡ i + 1) × (i < length s) × Contains bytes (slice_index s i)
set_span s bytes i j (w, c, d, h) = let r = set_out s bytes w i j c d h in (r.0, r.1, r.2)

pub set_leads : (s bytes : List ℕ) (window : Window) (p q : ℕ)
    → LeadsInside s (trees.set bytes) window p q
    → (start : ℕ) × OtherEnd window.direction window p 1 start q × Contains bytes (slice_index s start)
set_leads s bytes window p q h = each window.direction h.0
  where
    each : (d : Direction) → Leads s (trees.set bytes) d p q
        → (start : ℕ) × OtherEnd d window p 1 start q × Contains bytes (slice_index s start)
    each Ahead span = let r = set_span s bytes p q span in (p, (refl, r.0, h.1.1), r.2)
    each Back span = let r = set_span s bytes q p span in (q, (refl, sym r.0, h.1.0), r.2)

pub leads_set : (s bytes : List ℕ) (window : Window) (p q start : ℕ) → IsInside window p → window.high ≤ length s
    → OtherEnd window.direction window p 1 start q → Contains bytes (slice_index s start)
    → LeadsInside s (trees.set bytes) window p q
leads_set s bytes window p q start inside fits h has = each window.direction h
  where
    each : (d : Direction) → OtherEnd d window p 1 start q → Leads s (trees.set bytes) d p q × IsInside window q
    each Ahead (same, end, within) =
        let here : Contains bytes (slice_index s p) = subst (λ n. Contains bytes (slice_index s n)) same has in
        ((leaf, empty, empty, (end, omega arith, here, refl)), (omega arith, within))
    each Back (same, end, within) =
        let here : Contains bytes (slice_index s q) = subst (λ n. Contains bytes (slice_index s n)) same has in
        ((leaf, empty, empty, (sym end, omega arith, here, refl)), (within, omega arith))

-- WHAT AN ANSWER GIVES

-- an answer is the one place of which a fact holds, where there is one
pub gives_some : (R : ℕ → Type 0) (end : ℕ) → R end → ((q : ℕ) → R q → q ≡ end) → (q : ℕ) → (Some end ≡ Some q) ↔ R q
gives_some R end here one q = (λ e. subst R (some_same end q e) here, λ r. ap Some (sym (one q r)))

pub gives_none : (R : ℕ → Type 0) → ((q : ℕ) → R q → ⊥) → (q : ℕ) → (None ≡ Some q) ↔ R q
gives_none R nowhere q = (λ e. absurd (none-some q e), λ r. absurd (nowhere q r))

-- a place is led to where bytes have their other end there, and a test of their start holds
pub record IsTested (R : ℕ → Type 0) (E : ℕ → ℕ → Type 0) (Q : ℕ → Type 0) : Type 0 where
  pub to : (q : ℕ) → R q → (start : ℕ) × E start q × Q start
  pub from : (start q : ℕ) → E start q → Q start → R q

abbrev pub Tells : (ℕ → ℕ → Type 0) → Option (ℕ × ℕ) → Type 0
Tells E found = (start q : ℕ) → (found ≡ Some (start, q)) ↔ E start q

told_end : (E : ℕ → ℕ → Type 0) (start end a q : ℕ) → Tells E (Some (start, end)) → E a q → (start ≡ a) × (end ≡ q)
told_end E start end a q tells e =
    let same : (start, end) ≡ (a, q) = some_same (start, end) (a, q) ((tells a q).1 e) in
    (ap (λ (x : ℕ × ℕ). x.0) same, ap (λ (x : ℕ × ℕ). x.1) same)

pub tested_holds : (R : ℕ → Type 0) (E : ℕ → ℕ → Type 0) (Q : ℕ → Type 0) (start end : ℕ) → IsTested R E Q
    → Tells E (Some (start, end)) → Q start → (q : ℕ) → (Some end ≡ Some q) ↔ R q
tested_holds R E Q start end is tells holds =
    gives_some R end (is.from start end ((tells start end).0 refl) holds)
    (λ q r. let t = is.to q r in sym (told_end E start end t.0 q tells t.1).1)

pub tested_fails : (R : ℕ → Type 0) (E : ℕ → ℕ → Type 0) (Q : ℕ → Type 0) (start end : ℕ) → IsTested R E Q
    → Tells E (Some (start, end)) → (Q start → ⊥) → (q : ℕ) → (None ≡ Some q) ↔ R q
tested_fails R E Q start end is tells fails =
    gives_none R (λ q r. let t = is.to q r in
    fails (subst Q (sym (told_end E start end t.0 q tells t.1).0) t.2))

pub tested_nowhere : (R : ℕ → Type 0) (E : ℕ → ℕ → Type 0) (Q : ℕ → Type 0) → IsTested R E Q → Tells E None
    → (q : ℕ) → (None ≡ Some q) ↔ R q
tested_nowhere R E Q is tells =
    gives_none R (λ q r. let t = is.to q r in absurd (none-some (t.0, q) ((tells t.0 q).1 t.1)))

pub plain_tested : (s bytes : List ℕ) (window : Window) (p : ℕ) → IsInside window p → window.high ≤ length s
    → IsTested (LeadsInside s (trees.plain bytes) window p) (OtherEnd window.direction window p (length bytes))
    (λ start. part s start (start + length bytes) ≡ bytes)
plain_tested s bytes window p inside fits = record {
  to = λ q r. plain_leads s bytes window p q inside fits r;
  from = λ start q e is. leads_plain s bytes window p q start inside fits e is;
}

pub set_tested : (s bytes : List ℕ) (window : Window) (p : ℕ) → IsInside window p → window.high ≤ length s
    → IsTested (LeadsInside s (trees.set bytes) window p) (OtherEnd window.direction window p 1)
    (λ start. Contains bytes (slice_index s start))
set_tested s bytes window p inside fits = record {
  to = λ q r. set_leads s bytes window p q r;
  from = λ start q e has. leads_set s bytes window p q start inside fits e has;
}

-- the bytes lie in the window
pub other_end_within : (window : Window) (p count start q : ℕ) → IsInside window p
    → OtherEnd window.direction window p count start q → start + count ≤ window.high
other_end_within window p count start q inside = each window.direction
  where
    each : (d : Direction) → OtherEnd d window p count start q → start + count ≤ window.high
    each Ahead e = omega arith
    each Back e = omega arith

-- WHERE NOTHING IS SPANNED

-- the place is led to by a tree that spans nothing where its test holds
abbrev pub IsStill : List ℕ → trees.Tree → ℕ → Type 0
IsStill s trees.empty p = p ≤ length s
IsStill s trees.line_start p = IsTrue (is_line_start s p)
IsStill s trees.line_end p = IsTrue (is_line_end s p)
IsStill s t p = ⊥

still_spans : (s : List ℕ) (p : ℕ) → p ≤ length s → Spans s trees.empty p p
still_spans s p fits = (leaf, empty, empty, (refl, fits, refl))

-- either way it leads to the place itself
still : (s : List ℕ) (t : trees.Tree) (window : Window) (p : ℕ) → IsInside window p
    → ((i j : ℕ) → Spans s t i j → (j ≡ i) × IsStill s t i) → (IsStill s t p → Spans s t p p)
    → (q : ℕ) → LeadsInside s t window p q ↔ ((q ≡ p) × IsStill s t p)
still s t window p inside out back q = (λ h. each window.direction h.0, λ h. again window.direction h)
  where
    each : (d : Direction) → Leads s t d p q → (q ≡ p) × IsStill s t p
    each Ahead span = out p q span
    each Back span = let r = out q p span in (sym r.0, subst (IsStill s t) (sym r.0) r.1)

    again : (d : Direction) → (q ≡ p) × IsStill s t p → Leads s t d p q × IsInside window q
    again Ahead (same, holds) = subst (λ n. Spans s t p n × IsInside window n) (sym same) (back holds, inside)
    again Back (same, holds) = subst (λ n. Spans s t n p × IsInside window n) (sym same) (back holds, inside)

pub empty_still : (s : List ℕ) (window : Window) (p : ℕ) → IsInside window p
    → (q : ℕ) → LeadsInside s trees.empty window p q ↔ ((q ≡ p) × (p ≤ length s))
empty_still s window p inside = still s trees.empty window p inside out (still_spans s p)
  where
    out : (i j : ℕ) → Spans s trees.empty i j → (j ≡ i) × (i ≤ length s)
    out i j (leaf, c, d, h) = (h.0, h.1)
    out i j (w, c, d, h) = absurd h

pub start_still : (s : List ℕ) (window : Window) (p : ℕ) → IsInside window p
    → (q : ℕ) → LeadsInside s trees.line_start window p q ↔ ((q ≡ p) × IsTrue (is_line_start s p))
start_still s window p inside =
    still s trees.line_start window p inside out (λ h. (leaf, empty, empty, (refl, h, refl)))
  where
    out : (i j : ℕ) → Spans s trees.line_start i j → (j ≡ i) × IsTrue (is_line_start s i)
    out i j (leaf, c, d, h) = (h.0, h.1)
    out i j (w, c, d, h) = absurd h

pub end_still : (s : List ℕ) (window : Window) (p : ℕ) → IsInside window p
    → (q : ℕ) → LeadsInside s trees.line_end window p q ↔ ((q ≡ p) × IsTrue (is_line_end s p))
end_still s window p inside =
    still s trees.line_end window p inside out (λ h. (leaf, empty, empty, (refl, h, refl)))
  where
    out : (i j : ℕ) → Spans s trees.line_end i j → (j ≡ i) × IsTrue (is_line_end s i)
    out i j (leaf, c, d, h) = (h.0, h.1)
    out i j (w, c, d, h) = absurd h

-- two facts one behind the other
pub both_ways : {A B C : Type 0} → A ↔ B → C ↔ B → A ↔ C
both_ways (f, g) (h, k) = (λ a. k (f a), λ c. g (h c))
