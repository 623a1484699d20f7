-- Lists of groups that are read, made one group after the other: exactly those that are read so far.
-- One group more is read where no derivation is sure to set it, and is left out where one is.
-- The hard ones are `reads_put` and `reads_skip`, a group that is read behind a tree, and `last_more`, one list more of
-- those of the last trees.
use Rattle.std.proofs.Common.{◌≡◌, ◌≢◌, ◌↔◌, ◌⊎◌, ℕ, zero, suc, ◌+◌, ◌-◌, ◌<◌, ◌≤◌, true, false, List, [], ◌∷◌, ◌++◌, Vec, Global, length, get_or, map, take, drop, refl, sym, ap, ◌∙◌, subst, inl, inr, arith, true≢false, add-one, length-drop}
use Rattle.std.specs.List.{Contains}
use Rattle.std.proofs.lemmas.Bool.{cases_lt}
use Rattle.std.proofs.lemmas.List.{drop-drop, drop_all, drop_more, get_or_append_left, get_or_push}
use Rattle.std.proofs.lemmas.List.Elements.{Contains-append_left, Contains-push, Contains-push_cases}
use Rattle.ere_places.proofs.ListLemmas.{taken}
use Rattle.ere_tree.specs.Tree.{Tree, Trees, then, trees_of}
use Rattle.ere_tree.specs.View.{view}
use Rattle.ere_tree.specs.declared.ere.Ere.{Ere}
use Rattle.ere_reach.specs.Live.{AreLast, AreRead, IsLast, AreReadFrom, reads, reads_all, surely_sets}
use Rattle.ere_reach.specs.Refers.{HasMore}

-- what has come is no longer to come
pub passed : (now new one rest all : Type 0) → ((now ⊎ (one ⊎ rest)) ↔ all) → (new ↔ (now ⊎ one))
    → ((new ⊎ rest) ↔ all)
passed now new one rest all before step = (
  λ h. elim h [
    | inl has ↦ elim (step.0 has) [ inl was ↦ before.0 (inl was) | inr is ↦ before.0 (inr (inl is)) ]
    | inr later ↦ before.0 (inr (inr later))
  ],
  λ h. elim (before.1 h) [
    | inl was ↦ inl (step.1 (inl was))
    | inr more ↦ elim more [ inl is ↦ inl (step.1 (inr is)) | inr later ↦ inr later ]
  ],
)

pub nothing_left : (now all : Type 0) → ((now ⊎ ⊥) ↔ all) → (now ↔ all)
nothing_left now all both =
    (λ n. both.0 (inl n), λ h. elim (both.1 h) [ inl n ↦ n | inr never ↦ absurd never ])

-- one group more is read behind
pub reads_put : (t : Tree) (behind : List ℕ) (k : ℕ) (old new : List ℕ) → k < length behind
    → surely_sets t (get_or behind k 0) ≡ false → AreRead (reads t) (take k behind) old
    → HasMore (λ n. get_or behind k 0 ≡ n) old new → AreRead (reads t) (take (k + 1) behind) new
reads_put t behind k old new low unset before step n = (to, back)
  where
    to : Contains new n → reads t (Contains (take (k + 1) behind)) n
    to h = elim ((step n).0 h) [
      | inl was ↦ elim ((before n).0 was) [
        | inl refers ↦ inl refers
        | inr read ↦ inr ((taken behind k low n).1 (inl read.0), read.1)
      ]
      | inr is ↦ inr ((taken behind k low n).1 (inr is), subst (λ m. surely_sets t m ≡ false) is unset)
    ]

    back : reads t (Contains (take (k + 1) behind)) n → Contains new n
    back (inl refers) = (step n).1 (inl ((before n).1 (inl refers)))
    back (inr (has, not)) = elim ((taken behind k low n).0 has) [
      | inl earlier ↦ (step n).1 (inl ((before n).1 (inr (earlier, not))))
      | inr is ↦ (step n).1 (inr is)
    ]

pub reads_skip : (t : Tree) (behind : List ℕ) (k : ℕ) (old : List ℕ) → k < length behind
    → surely_sets t (get_or behind k 0) ≡ true → AreRead (reads t) (take k behind) old
    → AreRead (reads t) (take (k + 1) behind) old
reads_skip t behind k old low sets before n = (to, back)
  where
    to : Contains old n → reads t (Contains (take (k + 1) behind)) n
    to h = elim ((before n).0 h) [
      | inl refers ↦ inl refers
      | inr read ↦ inr ((taken behind k low n).1 (inl read.0), read.1)
    ]

    back : reads t (Contains (take (k + 1) behind)) n → Contains old n
    back (inl refers) = (before n).1 (inl refers)
    back (inr (has, not)) = elim ((taken behind k low n).0 has) [
      | inl earlier ↦ (before n).1 (inr (earlier, not))
      | inr is ↦ absurd (true≢false (sym sets ∙ ap (surely_sets t) is ∙ not))
    ]

-- what is read before a tree and others behind it
pub read_first : (t : Tree) (ts : Trees) (behind later found : List ℕ) → AreRead (reads_all ts) behind later
    → AreRead (reads t) later found → AreRead (reads_all (then t ts)) behind found
read_first t ts behind later found rest first n = (
  λ h. elim ((first n).0 h) [
    | inl refers ↦ inl refers
    | inr read ↦ inr ((rest n).0 read.0, read.1)
  ],
  λ h. elim h [
    | inl refers ↦ (first n).1 (inl refers)
    | inr read ↦ (first n).1 (inr ((rest n).1 read.0, read.1))
  ],
)

item_at : {X : Type 0} (xs : List X) (k : ℕ) → k < length xs → (x : X) × (x ≡ get_or xs k x)
item_at [] k low = absurd (omega (arith, low))
item_at (x ∷ xs) zero low = (x, refl)
item_at (x ∷ xs) (suc k) low = item_at xs k (omega (arith, low))

pub last_read : (all : List Ere) (behind : List ℕ) (lives : List (Vec ℕ Global)) (count k : ℕ) (found : List ℕ)
    → AreLast all behind lives count → length lives ≡ count → k ≤ count → IsLast behind lives k found
    → AreReadFrom (map view (drop (length all - k) all)) behind found
last_read all behind lives count zero found last long low is n =
    subst (λ (es : List Ere). AreReadFrom (map view es) behind found) (sym (drop_all (length all - 0) all (omega arith)))
    (λ m. (subst (λ (xs : List ℕ). Contains xs m) (is.0 refl), subst (λ (xs : List ℕ). Contains xs m) (sym (is.0 refl)))) n
last_read all behind lives count (suc k) found last long low is n =
    let (one, at) = item_at lives k (omega (arith, long, low)) in
    let before : k ≡ suc k - 1 = omega arith in
    subst (λ (xs : List ℕ). AreReadFrom (map view (drop (length all - suc k) all)) behind xs)
    (sym (is.1 one (omega arith) (at ∙ (λ i. get_or lives (before i) one))))
    (subst (λ i. AreReadFrom (map view (drop (length all - i) all)) behind one.items) (add-one k)
    (last k one (omega (arith, low)) at)) n

-- one list more
pub last_more : (all : List Ere) (behind : List ℕ) (old new : List (Vec ℕ Global)) (later : List ℕ) (first : Vec ℕ Global)
    (count : ℕ) (ere : Ere) → new ≡ old ++ first ∷ [] → length old ≡ count → count < length all
    → IsLast behind old count later → ere ≡ get_or all (length all - 1 - count) ere
    → AreRead (reads (view ere)) later first.items → AreLast all behind old count → AreLast all behind new (count + 1)
last_more all behind old new later first count ere is long low was at read before k one few here = elim (cases_lt k count) [
  | inl earlier ↦
      before k one earlier
      (here ∙ ap (λ xs. get_or xs k one) is ∙ get_or_append_left old (first ∷ []) one k (omega (arith, earlier, long)))
  | inr past ↦
      let last : length old ≡ k = omega (arith, few, past, long) in
      let this : one ≡ first = here ∙ ap (λ xs. get_or xs k one) is ∙ get_or_push old first one k last in
      let place : length all - (k + 1) ≡ length all - 1 - count = omega (arith, few, past, low) in
      let next : length all - 1 - count + 1 ≡ length all - count = omega (arith, low) in
      let parts : drop (length all - (k + 1)) all ≡ ere ∷ drop (length all - count) all =
      ap (λ i. drop i all) place ∙ drop_more all (length all - 1 - count) ere (omega (arith, low))
      ∙ (λ i. sym at i ∷ drop (next i) all) in
      subst (λ (es : List Ere). AreReadFrom (map view es) behind one.items) (sym parts)
      (subst (λ (v : Vec ℕ Global). AreReadFrom (map view (ere ∷ drop (length all - count) all)) behind v.items) (sym this)
      (read_first (view ere) (trees_of (map view (drop (length all - count) all))) behind later first.items
      (last_read all behind old count count later before long (omega arith) was) read))
]

-- what is read behind a part, by the lists of those behind the first one
pub behind_part : (items others : List Ere) (behind : List ℕ) (lives slice : List (Vec ℕ Global)) (k m : ℕ)
    (found : List ℕ) → others ≡ drop 1 items → AreLast others behind lives (length others) → length lives ≡ length others
    → slice ≡ lives → m + k + 1 ≡ length items → IsLast behind slice m found
    → AreReadFrom (map view (drop (k + 1) items)) behind found
behind_part items others behind lives slice k m found cut last many same all is =
    let long : length others ≡ length items - 1 = ap length cut ∙ length-drop 1 items in
    let place : 1 + (length others - m) ≡ k + 1 = omega (arith, long, all) in
    let parts : drop (length others - m) others ≡ drop (k + 1) items =
    ap (drop (length others - m)) cut ∙ drop-drop (length others - m) 1 items ∙ ap (λ i. drop i items) place in
    subst (λ (es : List Ere). AreReadFrom (map view es) behind found) parts
    (last_read others behind lives (length others) m found last many (omega (arith, long, all))
    (subst (λ (vs : List (Vec ℕ Global)). IsLast behind vs m found) same is))

-- all but one
abbrev pub AreOthers : List ℕ → ℕ → List ℕ → Type 0
AreOthers numbers own found = (n : ℕ) → Contains found n ↔ (Contains numbers n × (n ≢ own))

pub others_push : (numbers : List ℕ) (own k : ℕ) (old : List ℕ) → k < length numbers → get_or numbers k 0 ≢ own
    → AreOthers (take k numbers) own old → AreOthers (take (k + 1) numbers) own (old ++ get_or numbers k 0 ∷ [])
others_push numbers own k old low other before n = (
  λ h. elim (Contains-push_cases old (get_or numbers k 0) n h) [
    | inl was ↦ let b = (before n).0 was in ((taken numbers k low n).1 (inl b.0), b.1)
    | inr is ↦ ((taken numbers k low n).1 (inr is), λ e. other (is ∙ e))
  ],
  λ h. elim ((taken numbers k low n).0 h.0) [
    | inl earlier ↦ Contains-append_left old (get_or numbers k 0 ∷ []) n ((before n).1 (earlier, h.1))
    | inr is ↦ subst (Contains (old ++ get_or numbers k 0 ∷ [])) is (Contains-push old (get_or numbers k 0))
  ],
)

pub others_skip : (numbers : List ℕ) (own k : ℕ) (old : List ℕ) → k < length numbers → get_or numbers k 0 ≡ own
    → AreOthers (take k numbers) own old → AreOthers (take (k + 1) numbers) own old
others_skip numbers own k old low same before n = (
  λ h. let b = (before n).0 h in ((taken numbers k low n).1 (inl b.0), b.1),
  λ h. elim ((taken numbers k low n).0 h.0) [
    | inl earlier ↦ (before n).1 (earlier, h.1)
    | inr is ↦ absurd (h.1 (sym is ∙ same))
  ],
)
