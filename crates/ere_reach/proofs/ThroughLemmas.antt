-- What the parts of a concatenation lead to, one behind the other, and the alternatives of an alternation, each beside
-- the others: what is read from before the whole on has what is read from before a part on.
-- The hard one is `rest_more`: what is read behind a part is exactly what is read from before the parts behind it on.
use Rattle.std.proofs.Common.{◌≡◌, ℕ, ◌+◌, ◌<◌, ◌≤◌, zero, suc, Bool, true, false, ◌&&◌, ◌||◌, Some, List, [], ◌∷◌, length, map, drop, get_or, refl, sym, ap, ◌∙◌, subst, inl, inr, arith, drop-cons, add-one}
use Rattle.std.specs.List.{Contains}
use Rattle.std.proofs.lemmas.Bool.{cases_lt}
use Rattle.std.proofs.lemmas.List.{drop_all, length-map}
use Rattle.std.proofs.lemmas.Option.{none-some}
use Rattle.ere_tree.proofs.CapturesLemmas.{some_same}
use Rattle.ere_tree.proofs.DerivationLemmas.{all_are_part}
use Rattle.ere_tree.proofs.PartsLemmas.{all_out, alt_out, cat_out, none_out}
use Rattle.ere_tree.specs.Derivation.{done, next, parts, chosen, tree_at}
use Rattle.ere_tree.specs.Tree.{Tree, Trees, alt, cat, none, then, trees_of}
use Rattle.ere_tree.specs.View.{view}
use Rattle.ere_tree.specs.declared.ere.Ere.{Ere}
use Rattle.ere_reach.specs.declared.rows.Rows.{Rows}
use Rattle.ere_reach.specs.declared.site.Site.{Site}
use Rattle.ere_reach.specs.Leads.{Does, DoesAll, IsSound, IsComplete, LeadsOver, LeadsThrough, FitsText}
use Rattle.ere_reach.specs.Live.{AreRead, HasRead, reads, reads_all, surely_sets, one_surely_sets, all_surely_set}
use Rattle.ere_reach.specs.Rows.{AreInside, IsJoined}
use Rattle.ere_reach.proofs.MembersLemmas.{stay}
use Rattle.ere_reach.proofs.LeadsLemmas.{Both, inside_joined, leads_as, leads_then, sound_as}

-- PARTS

-- no part
pub through_none : (site : Site) (live : List ℕ) (rows : Rows) → FitsText site → AreInside site.low site.high rows
    → LeadsThrough site none live rows rows
through_none site live rows fits inside = λ before has. record {
  sound = λ h q is.
      let low = inside h q is in
      (h, q, is, λ c covers. (c, (done, (refl, omega (arith, low.1, fits), refl)), λ n r. covers n (has n r)));
  complete = λ g p c q d is covers (ws, h) low.
      stay site live rows g p q c d is (λ n r. covers n (has n r)) (none_out site.text.now ws p q c d h);
  inside = inside;
}

-- what is read from before some trees on is read from before the whole on
all_read : (ts : Trees) (Q : ℕ → Type 0) (n : ℕ) → reads_all ts Q n → reads (cat ts) Q n
all_read none Q n read = inr (read, refl)
all_read (then t ts) Q n (inl refers) = inl (inl refers)
all_read (then t ts) Q n (inr (later, not)) = elim (all_read ts Q n later) [
  | inl refers ↦ inl (inr refers)
  | inr read ↦ inr (read.0, ap (λ b. b || one_surely_sets ts n) not ∙ read.1)
]

-- the whole
pub cat_leads : (site : Site) (ts : Trees) (live : List ℕ) (from found : Rows) → LeadsThrough site ts live from found
    → LeadsOver site (cat ts) live from found
cat_leads site ts live from found leads = λ before has.
    let s = site.text.now in
    leads_as site (DoesAll s ts) (Does s (cat ts)) before live from found (λ p q c d (ws, h). (parts ws, h))
    (λ p q c d (w, h). let one = cat_out s ts w p q c d h in (one.0, one.2))
    (leads before (λ n read. has n (all_read ts (Contains live) n read)))

-- what is still to come leads to what the whole leads to
abbrev pub IsRest : Site → List ℕ → Trees → Rows → Trees → Rows → Type 0
IsRest site live rest now whole from =
    (found : Rows) → LeadsThrough site rest live now found → LeadsThrough site whole live from found

-- a part, and then those behind it
pub rest_more : (site : Site) (items : List Ere) (k : ℕ) (one : Ere) (live between : List ℕ) (from now after : Rows)
    (whole : Trees) → k < length items → one ≡ get_or items k one
    → AreRead (reads_all (trees_of (map view (drop (k + 1) items)))) live between
    → LeadsOver site (view one) between now after → IsRest site live (trees_of (map view (drop k items))) now whole from
    → IsRest site live (trees_of (map view (drop (k + 1) items))) after whole from
rest_more site items k one live between from now after whole low is read first rest = λ found leads.
    let s = site.text.now in
    let t = view one in
    let ts = trees_of (map view (drop (k + 1) items)) in
    let parts : trees_of (map view (drop k items)) ≡ then t ts =
    ap (λ (xs : List Ere). trees_of (map view xs)) (drop-cons items k one low)
    ∙ (λ n. then (view (sym is n)) (trees_of (map view (drop (sym (add-one k) n) items)))) in
    rest found (subst (λ us. LeadsThrough site us live now found) (sym parts) (λ before has.
    leads_as site (Both (Does s t) (DoesAll s ts)) (DoesAll s (then t ts)) before live now found
    (λ p q c d (r, e, (w, h), (ws, g)). (next r w ws, (e, h, g)))
    (λ p q c d (ws, h). let one = all_out s t ts ws p q c d h in (one.0, one.1, (one.2, one.4), (one.3, one.5)))
    (leads_then site (Does s t) (DoesAll s ts) before between live now after found
    (λ p q c d (ws, h). (all_are_part s ts ws p q c d h).0)
    (first before (λ n r. has n (elim r [ inl refers ↦ inl refers | inr x ↦ inr ((read n).0 x.0, x.1) ])))
    (leads between (λ n r. (read n).1 r)))))

pub rest_last : (site : Site) (items : List Ere) (k : ℕ) (live : List ℕ) (from now : Rows) (whole : Trees)
    → length items ≤ k → FitsText site → AreInside site.low site.high now
    → IsRest site live (trees_of (map view (drop k items))) now whole from → LeadsThrough site whole live from now
rest_last site items k live from now whole past fits inside rest =
    rest now (subst (λ (ts : Trees). LeadsThrough site ts live now now)
    (sym (ap (λ (xs : List Ere). trees_of (map view xs)) (drop_all k items past)))
    (through_none site live now fits inside))

-- ALTERNATIVES

-- rows to which so many of the alternatives lead
pub record LeadsByOne (site : Site) (ts : Trees) (count : ℕ) (before behind : List ℕ) (from found : Rows) : Type 0 where
  pub sound : IsSound site (Does site.text.now (alt ts)) before behind from found
  pub complete : (n : ℕ) (t : Tree) → n < count → tree_at ts n ≡ Some t
      → IsComplete site (Does site.text.now t) before behind from found
  pub inside : AreInside site.low site.high found

abbrev pub AreByOne : Site → Trees → ℕ → List ℕ → Rows → Rows → Type 0
AreByOne site ts count behind from found =
    (before : List ℕ) → HasRead (reads (alt ts)) behind before → LeadsByOne site ts count before behind from found

false_right : (b v : Bool) → v ≡ false → (b && v) ≡ false
false_right true v is = is
false_right false v is = refl

-- what is read from before an alternative on is read from before the alternation on
read_at : (ts : Trees) (k : ℕ) (t : Tree) (Q : ℕ → Type 0) (n : ℕ) → tree_at ts k ≡ Some t → reads t Q n
    → reads (alt ts) Q n
read_at none k t Q n at read = absurd (none-some t at)
read_at (then u ts) zero t Q n at read = elim (subst (λ x. reads x Q n) (sym (some_same u t at)) read) [
  | inl refers ↦ inl (inl refers)
  | inr r ↦ inr (r.0, ap (λ b. b && all_surely_set ts n) r.1)
]
read_at (then u ts) (suc k) t Q n at read = elim (read_at ts k t Q n at read) [
  | inl refers ↦ inl (inr refers)
  | inr r ↦ inr (r.0, false_right (surely_sets u n) (all_surely_set ts n) r.1)
]

-- one more of them
pub one_more : (site : Site) (ts : Trees) (k : ℕ) (t : Tree) (live : List ℕ) (from all found new : Rows)
    → tree_at ts k ≡ Some t → AreByOne site ts k live from all → LeadsOver site t live from found
    → IsJoined all found new → AreByOne site ts (k + 1) live from new
one_more site ts k t live from all found new at others leads joined before has =
    let s = site.text.now in
    let old = others before has in
    let it = leads before (λ n r. has n (read_at ts k t (Contains live) n at r)) in
    record {
      sound = λ h q is. elim ((joined h q).0 is) [
        | inl was ↦ old.sound h q was
        | inr one ↦ sound_as site (Does s t) (Does s (alt ts)) before live from found
            (λ p r c d (w, does). (chosen k w, (t, at, does))) it.sound h q one
      ];
      complete = λ n u few is g p c q d state covers does low. elim (cases_lt n k) [
        | inl below ↦
            let one = old.complete n u below is g p c q d state covers does low in
            (one.0, (joined one.0 q).1 (inl one.1), one.2)
        | inr past ↦
            let same : n ≡ k = omega (arith, few, past) in
            let this : u ≡ t = some_same u t (sym is ∙ ap (tree_at ts) same ∙ at) in
            let one = it.complete g p c q d state covers (subst (λ (x : Tree). Does s x p q c d) this does) low in
            (one.0, (joined one.0 q).1 (inr one.1), one.2)
      ];
      inside = inside_joined site.low site.high all found new joined old.inside it.inside;
    }

below : (ts : List Tree) (n : ℕ) (t : Tree) → tree_at (trees_of ts) n ≡ Some t → n < length ts
below [] n t at = absurd (none-some t at)
below (u ∷ ts) zero t at = omega arith
below (u ∷ ts) (suc n) t at = omega (arith, below ts n t at)

-- all of them
pub one_last : (site : Site) (items : List Ere) (k : ℕ) (live : List ℕ) (from all : Rows) → length items ≤ k
    → AreByOne site (trees_of (map view items)) k live from all
    → LeadsOver site (alt (trees_of (map view items))) live from all
one_last site items k live from all past leads before has =
    let ts = trees_of (map view items) in
    let known = leads before has in
    record {
      sound = known.sound;
      complete = λ g p c q d state covers (w, h) low.
          let one = alt_out site.text.now ts w p q c d h in
          let few : one.0 < k = omega (arith, below (map view items) one.0 one.2 one.3, length-map items view, past) in
          known.complete one.0 one.2 few one.3 g p c q d state covers (one.1, one.4) low;
      inside = known.inside;
    }

-- the tree of an expression of a list
pub view_at : (items : List Ere) (i : ℕ) (one : Ere) → i < length items → one ≡ get_or items i one
    → tree_at (trees_of (map view items)) i ≡ Some (view one)
view_at [] i one low is = absurd (omega (arith, low))
view_at (x ∷ items) zero one low is = ap (λ (e : Ere). Some (view e)) (sym is)
view_at (x ∷ items) (suc i) one low is = view_at items i one (omega (arith, low)) is
