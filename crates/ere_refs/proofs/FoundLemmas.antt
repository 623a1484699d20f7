-- Lists of what groups hold, as the code puts and sets them, and the trees of an expression's forms: what the code's lists are
-- behind stays a list of derivations. Alternatives are gone through by AreOverFirst of ListedLemmas.
-- The hard one is `has_like`: of two lists that agree on what is read, the derivations do.
use Rattle.std.proofs.Common.{◌≡◌, ℕ, suc, ◌+◌, ◌<◌, ◌≤◌, false, Option, Some, List, [], ◌∷◌, ◌++◌, Box, Vec, Global, zero, length, map, drop, get_or, refl, sym, ap, ◌∙◌, subst, ◌⊎◌, inl, inr, arith}
use Rattle.std.proofs.lemmas.List.{map-append}
use Rattle.std.proofs.lemmas.List.Elements.{All-cons, All-head, All-nil, All-push, All-tail}
use Rattle.std.specs.FinMap.{insert}
use Rattle.std.specs.List.{AllZip, Contains}
use Rattle.ere_tree.proofs.CapturesLemmas.{length-caps_of}
use Rattle.ere_tree.specs.Captures.{Captures, caps_of}
use Rattle.ere_tree.specs.Derivation.{Way, tree_at}
use Rattle.ere_tree.specs.Tree.{Tree, alt, cat, group, repeat, trees_of}
use Rattle.ere_tree.specs.declared.ere.Ere.{Ere}
use Rattle.ere_tree.specs.declared.ere.EreList.{EreList}
use Rattle.ere_tree.specs.declared.ere.ByteRun.{ByteRun}
use Rattle.ere_tree.specs.declared.byte_set.ByteSet.{ByteSet}
use Rattle.ere_tree.specs.declared.ere.Ere.TheVariants.{Alt, Cat, Empty, Group, LineEnd, LineStart, Plain, Repeat, Set}
use Rattle.ere_tree.proofs.ViewLemmas.{view_Alt, view_Cat, view_Empty, view_Group, view_LineEnd, view_LineStart, view_Plain, view_Repeat, view_Set}
use Rattle.ere_places.proofs.TreesLemmas.{trees_in_map}
use Rattle.ere_captures.proofs.WalkLemmas.{tree_here}
use Rattle.ere_refs.proofs.AgreeLemmas.{both_stay}
use Rattle.ere_refs.specs.Sets.{sets}
use Rattle.std.proofs.lemmas.Option.{none-some}
use Rattle.ere_tree.specs.View.{view}
use Rattle.ere_tree.specs.declared.hit.Cap.{Cap}
use Rattle.ere_refs.proofs.ListedLemmas.{alone, AreOverFirst, ArePut, in_choice, in_group, over_all_choices, over_enough, over_more_choices}
use Rattle.ere_refs.specs.Lists.{AreOver, HasLike, IsPut, Listed, TellsAll, lists_of}
use Rattle.ere_refs.specs.Machine.{AgreeOn, PutsAll, SetsGroup, PutsCaps, caps_at}
use Rattle.ere_refs.specs.Site.{AreLong}
use Rattle.ere_refs.specs.declared.held.Part.{Part}
use Rattle.ere_refs.specs.declared.kept.State.{State}

-- a list of what so many groups hold is as long
pub long_as : (start count : ℕ) (caps : List (Option Cap)) (b : Captures) → caps ≡ caps_of start b count
    → caps ≡ caps_of start b (length caps)
long_as start count caps b is = is ∙ ap (caps_of start b) (sym (ap length is ∙ length-caps_of start b count))

-- one of the lists agrees, and so does the derivation that it is behind
has_like : (live : List ℕ) (start count : ℕ) (d : Captures) (caps : List (Option Cap)) → caps ≡ caps_of start d count
    → (states : List State) (listed : Listed) → map caps_at states ≡ lists_of start count listed → (x : State)
    → Contains states x → AgreeOn live (caps_at x) caps → HasLike (Contains live) d listed
has_like live start count d caps is [] listed held x (k, low, at) agree = absurd (omega (arith, low))
has_like live start count d caps is (y ∷ states) [] held x has agree =
    let long = ap length held in absurd (omega (arith, long))
has_like live start count d caps is (y ∷ states) (z ∷ listed) held x (zero, low, at) agree =
    let own : caps_at x ≡ caps_of start z.1 count = ap caps_at (sym at) ∙ ap (λ xs. get_or xs 0 []) held in
    inl (λ n has. sym (agree start z.1 d (long_as start count (caps_at x) z.1 own) (long_as start count caps d is) n has))
has_like live start count d caps is (y ∷ states) (z ∷ listed) held x (suc k, low, at) agree =
    inr (has_like live start count d caps is states listed (ap (drop 1) held) x (k, omega (arith, low), at) agree)

pub put_listed : (live : List ℕ) (start count : ℕ) (w : Way) (d : Captures) (caps : List (Option Cap)) → caps ≡ caps_of start d count
    → (old new : List State) (listed : Listed) → map caps_at old ≡ lists_of start count listed → PutsCaps live caps old new
    → (more : Listed) × IsPut (Contains live) listed (w, d) more × (map caps_at new ≡ lists_of start count more)
put_listed live start count w d caps is old new listed held (inl put) = (
  listed ++ (w, d) ∷ [],
  inl refl,
  put ∙ (λ i. held i ++ is i ∷ []) ∙ sym (map-append (λ x. caps_of start x.1 count) listed ((w, d) ∷ [])),
)
put_listed live start count w d caps is old new listed held (inr (same, (x, has, agree))) = (
  listed,
  inr (refl, has_like live start count d caps is old listed held x has agree),
  ap (map caps_at) same ∙ held,
)

-- lists that are put one by one are those of derivations that are
pub puts_listed : (live : List ℕ) (start count : ℕ) (ys : Listed) (lists : List (List (Option Cap)))
    → lists ≡ lists_of start count ys → (old new : List State) (listed : Listed)
    → map caps_at old ≡ lists_of start count listed → PutsAll live lists old new
    → (more : Listed) × ArePut (Contains live) listed ys more × (map caps_at new ≡ lists_of start count more)
puts_listed live start count [] [] is old new listed held puts = (listed, refl, ap (map caps_at) puts ∙ held)
puts_listed live start count [] (x ∷ xs) is old new listed held puts = let long = ap length is in absurd (omega (arith, long))
puts_listed live start count (y ∷ ys) [] is old new listed held puts = let long = ap length is in absurd (omega (arith, long))
puts_listed live start count (y ∷ ys) (x ∷ xs) is old new listed held (mid, one, others) =
    let put = put_listed live start count y.0 y.1 x (ap (λ zs. get_or zs 0 []) is) old mid listed held one in
    let rest = puts_listed live start count ys xs (ap (drop 1) is) mid new put.0 put.2 others in
    (rest.0, (put.0, put.1, rest.1), rest.2)

-- the list of one, and of none
pub one_long : (count : ℕ) (found : List (Vec (Option Cap) Global)) (held : Vec (Option Cap) Global) → found ≡ held ∷ []
    → length held.items ≡ count → AreLong count (map (λ one. one.items) found)
one_long count found held is long =
    subst (λ (xs : List (Vec (Option Cap) Global)). AreLong count (map (λ one. one.items) xs)) (sym is)
    (All-cons (λ ys. length ys ≡ count) held.items [] long (All-nil (λ ys. length ys ≡ count)))

pub none_long : (count : ℕ) (found : List (Vec (Option Cap) Global)) → found ≡ []
    → AreLong count (map (λ one. one.items) found)
none_long count found is =
    subst (λ (xs : List (Vec (Option Cap) Global)). AreLong count (map (λ one. one.items) xs)) (sym is)
    (All-nil (λ ys. length ys ≡ count))

pub put_long : (live : List ℕ) (count : ℕ) (caps : List (Option Cap)) → length caps ≡ count → (old new : List State)
    → PutsCaps live caps old new → AreLong count (map caps_at old) → AreLong count (map caps_at new)
put_long live count caps long old new (inl put) all =
    subst (AreLong count) (sym put) (All-push (λ xs. length xs ≡ count) (map caps_at old) caps all long)
put_long live count caps long old new (inr (same, like)) all = subst (λ xs. AreLong count (map caps_at xs)) (sym same) all

pub puts_long : (live : List ℕ) (count : ℕ) (lists : List (List (Option Cap))) → AreLong count lists → (old new : List State)
    → PutsAll live lists old new → AreLong count (map caps_at old) → AreLong count (map caps_at new)
puts_long live count [] long old new puts all = subst (λ xs. AreLong count (map caps_at xs)) (sym puts) all
puts_long live count (x ∷ xs) long old new (mid, one, others) all =
    puts_long live count xs (All-tail (λ ys. length ys ≡ count) x xs long) mid new others
    (put_long live count x (All-head (λ ys. length ys ≡ count) x xs long) old mid one all)

pub set_listed : (part : Part) (number count : ℕ) (old new : List (Vec (Option Cap) Global)) (ys : Listed)
    → AllZip (SetsGroup part number) old new → map (λ held. held.items) old ≡ lists_of part.start count ys
    → map (λ held. held.items) new ≡ lists_of part.start count (map (in_group number (part.from, part.to)) ys)
set_listed part number count [] [] [] sets held = refl
set_listed part number count [] [] (y ∷ ys) sets held = let long = ap length held in absurd (omega (arith, long))
set_listed part number count [] (z ∷ new) ys sets held = absurd sets
set_listed part number count (x ∷ old) [] ys sets held = absurd sets
set_listed part number count (x ∷ old) (z ∷ new) [] sets held = let long = ap length held in absurd (omega (arith, long))
set_listed part number count (x ∷ old) (z ∷ new) (y ∷ ys) sets held =
    let one : x.items ≡ caps_of part.start y.1 count = ap (λ zs. get_or zs 0 []) held in
    let long : length x.items ≡ count = ap length one ∙ length-caps_of part.start y.1 count in
    let set : z.items ≡ caps_of part.start (insert y.1 number (part.from, part.to)) count =
    sets.0.0 y.1 (long_as part.start count x.items y.1 one)
    ∙ ap (caps_of part.start (insert y.1 number (part.from, part.to))) long in
    let rest = set_listed part number count old new ys sets.1 (ap (drop 1) held) in
    λ i. set i ∷ rest i

pub set_long : (part : Part) (number count : ℕ) (old new : List (Vec (Option Cap) Global))
    → AllZip (SetsGroup part number) old new → AreLong count (map (λ held. held.items) old)
    → AreLong count (map (λ held. held.items) new)
set_long part number count [] [] sets long = All-nil (λ ys. length ys ≡ count)
set_long part number count [] (z ∷ new) sets long = absurd sets
set_long part number count (x ∷ old) [] sets long = absurd sets
set_long part number count (x ∷ old) (z ∷ new) sets long =
    let IsLong = λ (ys : List (Option Cap)). length ys ≡ count in
    let olds = map (λ (held : Vec (Option Cap) Global). held.items) old in
    All-cons IsLong z.items (map (λ (held : Vec (Option Cap) Global). held.items) new)
    (sets.0.1 ∙ All-head IsLong x.items olds long)
    (set_long part number count old new sets.1 (All-tail IsLong x.items olds long))

-- the lists of an alternative are those of what is inside
pub choice_listed : (start count n : ℕ) (ys : Listed) → lists_of start count ys ≡ lists_of start count (map (in_choice n) ys)
choice_listed start count n [] = refl
choice_listed start count n (y ∷ ys) = λ i. caps_of start y.1 count ∷ choice_listed start count n ys i

pub none_of : {X : Type 0} (xs : List X) → length xs ≡ 0 → xs ≡ []
none_of [] e = refl
none_of (x ∷ xs) e = absurd (omega (arith, e))

-- the lists of one part alone are those of the part
pub alone_listed : (start count j : ℕ) (ys : Listed) → lists_of start count ys ≡ lists_of start count (map (alone j) ys)
alone_listed start count j [] = refl
alone_listed start count j (y ∷ ys) = λ i. caps_of start y.1 count ∷ alone_listed start count j ys i

-- TREES

pub cat_tree : (ere : Ere) (all : EreList) (items : List Ere) → items ≡ all.held.items → ere ≡ Cat all
    → cat (trees_of (map view items)) ≡ view ere
cat_tree ere all items same is =
    ap (λ (xs : List Ere). cat (trees_of (map view xs))) same ∙ sym (ap view is ∙ view_Cat all ∙ ap cat (trees_in_map all))

pub alt_tree : (ere : Ere) (all : EreList) (items : List Ere) → items ≡ all.held.items → ere ≡ Alt all
    → alt (trees_of (map view items)) ≡ view ere
alt_tree ere all items same is =
    ap (λ (xs : List Ere). alt (trees_of (map view xs))) same ∙ sym (ap view is ∙ view_Alt all ∙ ap alt (trees_in_map all))

pub repeat_tree : (ere : Ere) (inner : Box Ere Global) (least : ℕ) (most : Option ℕ) (one : Ere) → one ≡ inner.value
    → ere ≡ Repeat inner least most → repeat (view one) least most ≡ view ere
repeat_tree ere inner least most one same is =
    ap (λ (e : Ere). repeat (view e) least most) same ∙ sym (ap view is ∙ view_Repeat inner least most)

pub group_tree : (ere : Ere) (inner : Box Ere Global) (number : ℕ) (one : Ere) → one ≡ inner.value
    → ere ≡ Group number inner → group number (view one) ≡ view ere
group_tree ere inner number one same is =
    ap (λ (e : Ere). group number (view e)) same ∙ sym (ap view is ∙ view_Group number inner)

-- a tree in which no group stands tells all
pub tells_none : (t : Tree) (live : List ℕ) → ((n : ℕ) → sets t n ≡ false) → TellsAll t live
tells_none t live none s w v i j c d e h g n has = both_stay s t w v i j c d e h g n (none n)

-- no group stands in what has nothing inside
pub unset_text : (ere : Ere) (n : ℕ)
    → (ere ≡ Empty) ⊎ (((run : ByteRun) × (ere ≡ Plain run)) ⊎ ((one : ByteSet) × (ere ≡ Set one)))
    → sets (view ere) n ≡ false
unset_text ere n (inl is) = ap (λ e. sets (view e) n) is ∙ ap (λ t. sets t n) view_Empty
unset_text ere n (inr (inl (run, is))) = ap (λ e. sets (view e) n) is ∙ ap (λ t. sets t n) (view_Plain run)
unset_text ere n (inr (inr (one, is))) = ap (λ e. sets (view e) n) is ∙ ap (λ t. sets t n) (view_Set one)

pub unset_anchor : (ere : Ere) (n : ℕ) → (ere ≡ LineStart) ⊎ (ere ≡ LineEnd) → sets (view ere) n ≡ false
unset_anchor ere n (inl is) = ap (λ e. sets (view e) n) is ∙ ap (λ t. sets t n) view_LineStart
unset_anchor ere n (inr is) = ap (λ e. sets (view e) n) is ∙ ap (λ t. sets t n) view_LineEnd

-- ALTERNATIVES

-- captures that so many lists of the first alternatives hold
abbrev pub HasFirst : List ℕ → List Ere → List ℕ → Part → ℕ → Captures → ℕ → List State → Type 0
HasFirst s items live part count d k found =
    (all : Listed) × AreOverFirst s (trees_of (map view items)) part.from part.to d (Contains live) k all
    × (map caps_at found ≡ lists_of part.start count all)

pub first_more : (s : List ℕ) (items : List Ere) (live : List ℕ) (part : Part) (count : ℕ) (d : Captures) (k : ℕ) (one : Ere)
    (old new : List State) (lists : List (Vec (Option Cap) Global)) → k < length items → one ≡ get_or items k one
    → HasFirst s items live part count d k old → (all : Listed)
    → AreOver s (view one) part.from part.to d (Contains live) all
    → map (λ held. held.items) lists ≡ lists_of part.start count all
    → PutsAll live (map (λ held. held.items) lists) old new → HasFirst s items live part count d (k + 1) new
first_more s items live part count d k one old new lists low is before all over held puts =
    let put = puts_listed live part.start count (map (in_choice k) all) (map (λ held. held.items) lists)
    (held ∙ choice_listed part.start count k all) old new before.0 before.2 puts in (
      put.0,
      over_more_choices s (trees_of (map view items)) part.from part.to d (Contains live) k (view one) before.0 all put.0
          (tree_here items k one low is) before.1 over put.1,
      put.2,
    )

choice_low : (items : List Ere) (k : ℕ) (t : Tree) → tree_at (trees_of (map view items)) k ≡ Some t → k < length items
choice_low [] k t at = absurd (none-some t at)
choice_low (e ∷ items) zero t at = omega arith
choice_low (e ∷ items) (suc k) t at = let low = choice_low items k t at in omega (arith, low)

-- the lists of all alternatives
pub first_all : (s : List ℕ) (items : List Ere) (live : List ℕ) (part : Part) (count : ℕ) (d : Captures) (k : ℕ)
    (found : List State) → length items ≤ k → HasFirst s items live part count d k found → (all : Listed)
    × AreOver s (alt (trees_of (map view items))) part.from part.to d (Contains live) all
    × (map caps_at found ≡ lists_of part.start count all)
first_all s items live part count d k found past first = (
  first.0,
  over_all_choices s (trees_of (map view items)) part.from part.to d (Contains live) k first.0 first.1
      (λ n t at. let low = choice_low items n t at in omega (arith, low, past)),
  first.2,
)

-- something is found, and nothing is read behind it
pub first_enough : (s : List ℕ) (items : List Ere) (live : List ℕ) (part : Part) (count : ℕ) (d : Captures) (k : ℕ)
    (found : List State) → live ≡ [] → 0 < length found → HasFirst s items live part count d k found → (all : Listed)
    × AreOver s (alt (trees_of (map view items))) part.from part.to d (Contains live) all
    × (map caps_at found ≡ lists_of part.start count all)
first_enough s items live part count d k [] none some first = absurd (omega (arith, some))
first_enough s items live part count d k (x ∷ found) none some ([], first, held) =
    let long = ap length held in absurd (omega (arith, long))
first_enough s items live part count d k (x ∷ found) none some (y ∷ ys, first, held) = (
  y ∷ ys,
  over_enough s (trees_of (map view items)) part.from part.to d (Contains live) k y ys
      (λ n has. let low = (subst (λ ns. Contains ns n) none has).1 in absurd (omega (arith, low))) first,
  held,
)
