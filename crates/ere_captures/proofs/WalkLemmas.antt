-- The preferred way, step by step: what a list of captures gets from a group, an alternative, parts and members.
-- Parts and members that are done say what is still owed: any best way on from here, behind the captures so far, gives
-- a best way of the whole. Each step takes the best way of one part with the greatest end that leads on.
use Rattle.std.proofs.Common.{◌≡◌, ℕ, zero, suc, ◌+◌, ◌-◌, ◌^◌, ◌<◌, ◌≤◌, false, Option, Some, None, List, [], ◌∷◌, length, map, drop, get_or, refl, sym, ap, ◌∙◌, subst, inl, inr, arith}
use Rattle.std.specs.Prelude.{slice_set}
use Rattle.std.proofs.lemmas.Bool.{cases_lt}
use Rattle.std.proofs.lemmas.List.{drop_all}
use Rattle.ere_tree.proofs.CapturesLemmas.{some_same}
use Rattle.ere_tree.specs.View.{view}
use Rattle.ere_tree.specs.declared.ere.Ere.{Ere}
use Rattle.ere_places.proofs.ReachLemmas.{views_from}
use Rattle.ere_places.proofs.SpanLemmas.{spans_part}
use Rattle.std.specs.FinMap.{insert}
use Rattle.ere_tree.specs.Captures.{Captures, caps_of}
use Rattle.ere_tree.specs.Derivation.{Way, Ways, leaf, parts, members, chosen, inside, done, next, DerivesAll, DerivesEach, CanRepeat, IsPart, Spans, count_of, tree_at}
use Rattle.ere_tree.specs.Preference.{within}
use Rattle.ere_tree.specs.Shape.{has_refs, greatest_group, greatest_group_of}
use Rattle.ere_tree.specs.Tree.{Tree, cat, alt, repeat, group, trees_of}
use Rattle.ere_tree.specs.declared.hit.Cap.{Cap}
use Rattle.ere_places.specs.Places.{SpanAll, SpanOne}
use Rattle.ere_captures.specs.Best.{IsBest}
use Rattle.ere_captures.specs.Walk.{SetsBest, less_one}
use Rattle.ere_captures.proofs.BestLemmas.{AllBest, EachBest, none_best, part_best, cat_best, alternative_best, done_best, member_best, repeat_best, behind_each, fits_more, RoomForOne}
use Rattle.ere_captures.proofs.ExistLemmas.{best_way}
use Rattle.ere_captures.proofs.KeepLemmas.{keeps, caps_agree, caps_set, get_other}

-- without groups nothing is set
pub sets_none : (s : List ℕ) (t : Tree) (start i j count : ℕ) (old : List (Option Cap)) → has_refs t ≡ false
    → Spans s t i j → greatest_group t ≡ 0 → SetsBest s t start i j count old old
sets_none s t start i j count old r span none c is =
    let b = best_way s t i j c r span in (
      b.0,
      b.1,
      b.2,
      b.3,
      is ∙ caps_agree start c b.1 count
          (λ n low. sym (keeps s t b.0 i j c b.1 b.2 n (omega (arith, none, low)))),
    )

group_best : (s : List ℕ) (n : ℕ) (t : Tree) (w : Way) (i j : ℕ) → IsBest s t w i j → IsBest s (group n t) (inside w) i j
group_best s n t w i j best (inside v) c d h e = best v c h.0 h.1 e
group_best s n t w i j best leaf c d h e = absurd h
group_best s n t w i j best (parts vs) c d h e = absurd h
group_best s n t w i j best (members vs) c d h e = absurd h
group_best s n t w i j best (chosen k v) c d h e = absurd h

pub sets_group : (s : List ℕ) (n : ℕ) (t : Tree) (start i j count : ℕ) (old mid new : List (Option Cap))
    → SetsBest s t start i j count old mid
    → ((d : Captures) → mid ≡ caps_of start d count → new ≡ caps_of start (insert d n (i, j)) count)
    → SetsBest s (group n t) start i j count old new
sets_group s n t start i j count old mid new inner set c is =
    let w = inner c is in
    (inside w.0, insert w.1 n (i, j), (w.1, w.2, refl), group_best s n t w.0 i j w.3, set w.1 w.4)

pub sets_one : (s : List ℕ) (ts : List Tree) (n : ℕ) (t : Tree) (start i j count : ℕ) (old new : List (Option Cap))
    → tree_at (trees_of ts) n ≡ Some t
    → ((k : ℕ) (u : Tree) → k < n → tree_at (trees_of ts) k ≡ Some u → Spans s u i j → ⊥)
    → SetsBest s t start i j count old new → SetsBest s (alt (trees_of ts)) start i j count old new
sets_one s ts n t start i j count old new at first one c is =
    let w = one c is in
    (chosen n w.0, w.1, (t, at, w.2), alternative_best s ts n t w.0 i j at w.3 first, w.4)

-- PARTS

-- the parts up to a place are gone through, and these are left
abbrev pub PartsTo : List ℕ → List Tree → List Tree → ℕ → ℕ → ℕ → ℕ → ℕ → List (Option Cap) → List (Option Cap) → Type 0
PartsTo s ts rest start count i at j old now =
    (c : Captures) → old ≡ caps_of start c count
    → (e : Captures) × (now ≡ caps_of start e count)
    × ((ws : Ways) (d : Captures) → DerivesAll s (trees_of rest) ws at j e d → AllBest s rest ws at j
    → (vs : Ways) × DerivesAll s (trees_of ts) vs i j c d × AllBest s ts vs i j)

pub parts_begin : (s : List ℕ) (ts : List Tree) (start count i j : ℕ) (old : List (Option Cap))
    → PartsTo s ts ts start count i i j old old
parts_begin s ts start count i j old c is = (c, is, λ ws d h best. (ws, h, best))

pub parts_more : (s : List ℕ) (ts : List Tree) (t : Tree) (rest : List Tree) (start count i at m j : ℕ)
    (old now new : List (Option Cap)) → PartsTo s ts (t ∷ rest) start count i at j old now
    → SetsBest s t start at m count now new → ((k : ℕ) → Spans s t at k → SpanAll s rest k j → k ≤ m)
    → PartsTo s ts rest start count i m j old new
parts_more s ts t rest start count i at m j old now new before one greatest c is =
    let b = before c is in
    let w = one b.0 b.1 in (
      w.1,
      w.4,
      λ ws d h best. b.2 (next m w.0 ws) d (w.1, w.2, h)
          (part_best s t rest w.0 ws at m j w.3 best greatest),
    )

pub parts_end : (s : List ℕ) (ts : List Tree) (start count i at j : ℕ) (old now : List (Option Cap))
    → PartsTo s ts [] start count i at j old now → SpanAll s [] at j
    → SetsBest s (cat (trees_of ts)) start i j count old now
parts_end s ts start count i at j old now before over c is =
    let b = before c is in
    let all = b.2 done b.0 (over.0, over.1, refl) (none_best s at j) in
    (parts all.0, b.0, all.1, cat_best s ts all.0 i j all.2, b.1)

-- MEMBERS

-- members up to a place are gone through, and these bounds are left
abbrev pub MembersTo : List ℕ → Tree → ℕ → Option ℕ → ℕ → Option ℕ → ℕ → ℕ → ℕ → ℕ → ℕ → List (Option Cap)
    → List (Option Cap) → Type 0
MembersTo s t least most low high start count i at j old now =
    (c : Captures) → old ≡ caps_of start c count
    → (e : Captures) × (now ≡ caps_of start e count)
    × ((ws : Ways) (d : Captures) → CanRepeat low high (count_of ws) → DerivesEach s t low ws at j e d
    → EachBest s t low high ws at j
    → (vs : Ways) × CanRepeat least most (count_of vs) × DerivesEach s t least vs i j c d
    × EachBest s t least most vs i j)

pub members_begin : (s : List ℕ) (t : Tree) (least : ℕ) (most : Option ℕ) (start count i j : ℕ)
    (old : List (Option Cap)) → MembersTo s t least most least most start count i i j old old
members_begin s t least most start count i j old c is = (c, is, λ ws d fits h best. (ws, fits, h, best))

pub members_more : (s : List ℕ) (t : Tree) (least : ℕ) (most : Option ℕ) (low : ℕ) (high : Option ℕ)
    (start count i at m j : ℕ) (old now new : List (Option Cap))
    → MembersTo s t least most low high start count i at j old now → SetsBest s t start at m count now new
    → (low ≡ 0 → at < m) → RoomForOne high
    → ((k : ℕ) → Spans s t at k → Spans s (repeat t (low - 1) (less_one high)) k j → k ≤ m)
    → MembersTo s t least most (low - 1) (less_one high) start count i m j old new
members_more s t least most low high start count i at m j old now new before one on room greatest c is =
    let b = before c is in
    let w = one b.0 b.1 in (
      w.1,
      w.4,
      λ ws d fits h best. b.2 (next m w.0 ws) d (fits_more low high (count_of ws) room fits)
          (behind_each s t low m w.0 ws at j b.0 w.1 d w.2 on h)
          (member_best s t low high w.0 ws at m j w.3 best greatest),
    )

nothing_fits : (high : Option ℕ) → CanRepeat 0 high 0
nothing_fits None = (omega arith, tt)
nothing_fits (Some most) = (omega arith, omega arith)

pub members_end : (s : List ℕ) (t : Tree) (least : ℕ) (most : Option ℕ) (high : Option ℕ) (start count i at j : ℕ)
    (old now : List (Option Cap)) → MembersTo s t least most 0 high start count i at j old now → at ≡ j
    → j ≤ length s → SetsBest s (repeat t least most) start i j count old now
members_end s t least most high start count i at j old now before over within c is =
    let b = before c is in
    let all = b.2 done b.0 (nothing_fits high) (sym over, omega (arith, over, within), refl)
    (done_best s t 0 high at j) in
    (members all.0, b.0, (all.1, all.2), repeat_best s t least most all.0 i j all.3, b.1)

-- PLACES AND ROOM

pub all_is_part : (s : List ℕ) (ts : List Tree) (i j : ℕ) → SpanAll s ts i j → IsPart s i j
all_is_part s [] i j h = (omega (arith, h.0), omega (arith, h.0, h.1))
all_is_part s (t ∷ ts) i j (k, first, rest) =
    let r = all_is_part s ts k j rest in
    (omega (arith, (spans_part s t i k first).0, r.0), r.1)

pub one_is_part : (s : List ℕ) (ts : List Tree) (i j : ℕ) → SpanOne s ts i j → IsPart s i j
one_is_part s [] i j h = absurd h
one_is_part s (t ∷ ts) i j (inl h) = spans_part s t i j h
one_is_part s (t ∷ ts) i j (inr h) = one_is_part s ts i j h

-- a list has room for the groups of each of some trees where it has room for all
pub room_at : (items : List Ere) (k : ℕ) (one : Ere) (n : ℕ) → k < length items → one ≡ get_or items k one
    → greatest_group_of (trees_of (map view items)) ≤ n → greatest_group (view one) ≤ n
room_at [] k one n low is fits = absurd (omega arith)
room_at (e ∷ items) zero one n low is fits =
    let same : greatest_group (view one) ≡ greatest_group (view e) = ap (λ x. greatest_group (view x)) is in
    omega (arith, same)
room_at (e ∷ items) (suc k) one n low is fits = room_at items k one n (omega arith) is (omega arith)

-- the sum of offsets fits where the slice's end does
pub offset_fits : (s : List ℕ) (start i j : ℕ) → IsPart s i j → start + length s < 2 ^ 64
    → (start + i < 2 ^ 64) × (start + j < 2 ^ 64)
offset_fits s start i j lies fits = (omega (arith, lies.0, lies.1, fits), omega (arith, lies.1, fits))

-- A GROUP'S PLACE

pub group_set : (start : ℕ) (d : Captures) (count number from to : ℕ) (old new : List (Option Cap)) → number ≤ count
    → 0 < number → old ≡ caps_of start d count
    → new ≡ slice_set old (number - 1) (Some (record { from = start + from; to = start + to }))
    → new ≡ caps_of start (insert d number (from, to)) count
group_set start d count number from to old new fits some is made =
    made
    ∙ ap (λ (xs : List (Option Cap)).
    slice_set xs (number - 1) (Some (record { from = start + from; to = start + to }))) is
    ∙ caps_set start d count number from to some fits

pub group_zero : (start : ℕ) (d : Captures) (count number from to : ℕ) (old : List (Option Cap)) → number ≡ 0
    → old ≡ caps_of start d count → old ≡ caps_of start (insert d number (from, to)) count
group_zero start d count number from to old none is =
    is ∙ caps_agree start d (insert d number (from, to)) count
    (λ n low. sym (get_other d number (from, to) n (λ e. absurd (omega (arith, e, none, low)))))

-- ALTERNATIVES

-- the tree at an index
pub tree_here : (items : List Ere) (k : ℕ) (one : Ere) → k < length items → one ≡ get_or items k one
    → tree_at (trees_of (map view items)) k ≡ Some (view one)
tree_here [] k one low is = absurd (omega arith)
tree_here (e ∷ items) zero one low is = ap (λ x. Some (view x)) (sym is)
tree_here (e ∷ items) (suc k) one low is = tree_here items k one (omega arith) is

-- one alternative more that doesn't span the part
pub none_more : (s : List ℕ) (items : List Ere) (k : ℕ) (one : Ere) (i j : ℕ) → k < length items
    → one ≡ get_or items k one
    → ((n : ℕ) (u : Tree) → n < k → tree_at (trees_of (map view items)) n ≡ Some u → Spans s u i j → ⊥)
    → (Spans s (view one) i j → ⊥)
    → (n : ℕ) (u : Tree) → n < k + 1 → tree_at (trees_of (map view items)) n ≡ Some u → Spans s u i j → ⊥
none_more s items k one i j low is before here n u fits at span = elim (cases_lt n k) [
  | inl lower ↦ before n u lower at span
  | inr upper ↦
      let same : n ≡ k = omega (arith, fits, upper) in
      let tree : u ≡ view one =
      some_same u (view one) (sym at ∙ ap (tree_at (trees_of (map view items))) same ∙ tree_here items k one low is) in
      here (subst (λ (t : Tree). Spans s t i j) tree span)
]

-- and so one of those behind it does
pub one_behind : (s : List ℕ) (items : List Ere) (k : ℕ) (one : Ere) (i j : ℕ) → k < length items
    → one ≡ get_or items k one → (Spans s (view one) i j → ⊥) → SpanOne s (map view (drop k items)) i j
    → SpanOne s (map view (drop (k + 1) items)) i j
one_behind s items k one i j low is here span =
    each (subst (λ (ts : List Tree). SpanOne s ts i j) (views_from items k one low is) span)
  where
    each : SpanOne s (view one ∷ map view (drop (k + 1) items)) i j → SpanOne s (map view (drop (k + 1) items)) i j
    each (inl h) = absurd (here h)
    each (inr h) = h

pub none_behind : (s : List ℕ) (items : List Ere) (k i j : ℕ) → length items ≤ k
    → SpanOne s (map view (drop k items)) i j → ⊥
none_behind s items k i j past span =
    subst (λ (xs : List Ere). SpanOne s (map view xs) i j) (drop_all k items past) span

-- what holds of bounds holds of equal ones
pub along : (P : ℕ → Option ℕ → Type 0) (a b : ℕ) (x y : Option ℕ) → b ≡ a → y ≡ x → P a x → P b y
along P a b x y same too h = subst (λ n. P n y) (sym same) (subst (P a) (sym too) h)
