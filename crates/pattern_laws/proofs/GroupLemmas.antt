-- A match sets each group that gives something. A group is a part of the whole, so each derivation of the whole passes it;
-- and what is set stays set, in the bounds of the match (`stays`, by induction on the tree).
-- The hard one is `all_set`, which finds the group among the parts.
use Rattle.std.proofs.Common.{◌≡◌, ℕ, ◌+◌, ◌-◌, ◌<◌, ◌≤◌, zero, suc, Bool, true, false, cond, Option, Some, None, IfSome, Result, Ok, Err, List, [], ◌∷◌, ◌++◌, length, drop, refl, sym, ap, ◌∙◌, subst, inl, inr, slice_get, arith}
use Rattle.std.specs.FinMap.{empty, get, insert, get-insert}
use Rattle.std.specs.Cmp.{nat_cmp_total}
use Rattle.std.specs.Cmp.{IsEquivalence}
use Rattle.std.proofs.lemmas.Cmp.{eq_by_cmp_equiv}
use Rattle.std.proofs.lemmas.List.FromFn.{get_or-range_with_len, length-range_with_len}
use Rattle.std.proofs.lemmas.Option.{slice_get-map, slice_get-get_or}
use Rattle.std.specs.List.{range_with_len}
use Rattle.std.specs.Prelude.{IfOk, IfErr, ℤ}
use Rattle.std.specs.Ordering.{nat_cmp, eq_by_cmp}
use Rattle.std.specs.List.{cons_option}
use Rattle.std.specs.Option.{option_map}
use Rattle.ere_tree.proofs.DerivationLemmas.{is_part, all_are_part, each_is_part}
use Rattle.ere_hit.proofs.ValueLemmas.{value_is_hit, value_lies}
use Rattle.ere_hit.specs.Value.{LiesIn, hit_in}
use Rattle.ere_slow.proofs.MembershipLemmas.{IsIn, IsIn-append_left, IsIn-append_right}
use Rattle.ere_tree.specs.Captures.{Captures, cap_of, caps_of}
use Rattle.ere_tree.specs.Hit.{FindsHit, TellsHit}
use Rattle.ere_tree.specs.Shape.{greatest_group, greatest_group_of}
use Rattle.ere_tree.specs.declared.hit.Cap.{Cap}
use Rattle.ere_tree.specs.declared.hit.Hit.{Hit}
use Rattle.num_base.specs.Eval.{value_of}
use Rattle.num_base.specs.Term.{Term}
use Rattle.num_base.specs.declared.evaluation.EvalFault.{EvalFault}
use Rattle.num_base.specs.declared.evaluation.EvalFault.TheVariants as fault
use Rattle.num_base.specs.declared.format.Format.{Format}
use Rattle.num_spell.specs.Spelling.{prints}
use Rattle.pattern_hits.specs.Bound.{all_bound, behind_bound, bound_of, cap_at, held, number_bound, number_read, span_at, text_at, with_bound}
use Rattle.pattern_instance.specs.Instance.{Instance, undefined, faulty, made, before, behind, instance_of, made_of, unless_missing}
use Rattle.pattern_instance.specs.Known.{Known, known_of}
use Rattle.pattern_instance.specs.Missing.{missing}
use Rattle.pattern_instance.specs.Parts.{Part, Parts, Groups, part_of, parts_from, groups_behind, behind_part, map_parts, with_part, number_part, valued, shown}
use Rattle.pattern_instance.specs.declared.gift.Gift.{Gift}
use Rattle.pattern_instance.specs.declared.gift.Gift.TheVariants.{Text, Number, Given}
use Rattle.pattern_parse.specs.Item.{Item}
use Rattle.pattern_parse.specs.Item as item
use Rattle.pattern_parse.specs.PieceView.{items_view}
use Rattle.pattern_parse.specs.declared.pattern.Frame.{Frame}
use Rattle.pattern_scan.specs.Seek.{answer_of, answered, sought_of}
use Rattle.pattern_scan.specs.declared.sought.Sought.TheVariants.{Unreadable}
use Rattle.pattern_vars.specs.declared.binding.Binding.{Binding}
use Rattle.tt_base.specs.Place.{span_of}
use Rattle.tt_base.specs.declared.place.Span.{Span}
use Rattle.pattern_laws.specs.Groups.{AreThere, GroupsAreSet, IsSet, IsThere, UnreadableLies}
use Rattle.ere_tree.specs.Derivation.{Way, Ways, leaf, parts, members, chosen, inside, done, next, Derives, DerivesAll, DerivesEach}
use Rattle.ere_tree.specs.Tree.{Tree, Trees, empty as nothing, plain, set, line_start, line_end, cat, alt, repeat, group, back, none, then, trees_of}

-- the group holds a part between two places
pub record Holds (lo hi k : ℕ) (c : Captures) : Type 0 where
  pub part : ℕ × ℕ
  pub is : get c k ≡ Some part
  pub behind : lo ≤ part.0
  pub ordered : part.0 ≤ part.1
  pub within : part.1 ≤ hi

pub holds_now : (c : Captures) (k : ℕ) (p : ℕ × ℕ) → get (insert c k p) k ≡ Some p
holds_now c k p =
    get-insert nat_cmp_total c k p k
    ∙ ap (λ v. cond v (Some p) (get c k)) (IsEquivalence.refl (eq_by_cmp_equiv nat_cmp_total) k)

set_now : (lo hi k i j : ℕ) (c : Captures) → lo ≤ i → i ≤ j → j ≤ hi → Holds lo hi k (insert c k (i, j))
set_now lo hi k i j c low mid high =
    record { part = (i, j); is = holds_now c k (i, j); behind = low; ordered = mid; within = high }

stays_at : (lo hi k n i j : ℕ) (c : Captures) → lo ≤ i → i ≤ j → j ≤ hi → Holds lo hi k c
    → Holds lo hi k (insert c n (i, j))
stays_at lo hi k n i j c low mid high held = each (eq_by_cmp nat_cmp k n) (get-insert nat_cmp_total c n (i, j) k)
  where
    each : (v : Bool) → get (insert c n (i, j)) k ≡ cond v (Some (i, j)) (get c k) → Holds lo hi k (insert c n (i, j))
    each true is = record { part = (i, j); is = is; behind = low; ordered = mid; within = high }
    each false is = record {
      part = held.part;
      is = is ∙ held.is;
      behind = held.behind;
      ordered = held.ordered;
      within = held.within;
    }

mutual
  stays : (s : List ℕ) (t : Tree) (w : Way) (i j : ℕ) (c d : Captures) (lo hi k : ℕ) → lo ≤ i → j ≤ hi
      → Holds lo hi k c → Derives s t w i j c d → Holds lo hi k d
  stays s nothing leaf i j c d lo hi k low high held h = subst (Holds lo hi k) (sym h.2) held
  stays s (plain bytes) leaf i j c d lo hi k low high held h = subst (Holds lo hi k) (sym h.2) held
  stays s (set bytes) leaf i j c d lo hi k low high held h = subst (Holds lo hi k) (sym h.3) held
  stays s line_start leaf i j c d lo hi k low high held h = subst (Holds lo hi k) (sym h.2) held
  stays s line_end leaf i j c d lo hi k low high held h = subst (Holds lo hi k) (sym h.2) held
  stays s (cat all) (parts ws) i j c d lo hi k low high held h = all_stay s all ws i j c d lo hi k low high held h
  stays s (alt all) (chosen n w) i j c d lo hi k low high held h = stays s h.0 w i j c d lo hi k low high held h.2
  stays s (repeat inner least most) (members ws) i j c d lo hi k low high held h =
      each_stays s inner least ws i j c d lo hi k low high held h.1
  stays s (group number inner) (inside w) i j c d lo hi k low high held h =
      subst (Holds lo hi k) (sym h.2) (stays_at lo hi k number i j h.0 low (is_part s inner w i j c h.0 h.1).0 high
      (stays s inner w i j c h.0 lo hi k low high held h.1))
  stays s (back number fold) leaf i j c d lo hi k low high held h = subst (Holds lo hi k) (sym h.4) held
  stays s t w i j c d lo hi k low high held h = absurd h

  all_stay : (s : List ℕ) (ts : Trees) (ws : Ways) (i j : ℕ) (c d : Captures) (lo hi k : ℕ) → lo ≤ i → j ≤ hi
      → Holds lo hi k c → DerivesAll s ts ws i j c d → Holds lo hi k d
  all_stay s none done i j c d lo hi k low high held h = subst (Holds lo hi k) (sym h.2) held
  all_stay s (then t ts) (next m w ws) i j c d lo hi k low high held h =
      let first = is_part s t w i m c h.0 h.1 in
      let rest = all_are_part s ts ws m j h.0 d h.2 in
      all_stay s ts ws m j h.0 d lo hi k (omega (arith, first.0)) high
      (stays s t w i m c h.0 lo hi k low (omega (arith, rest.0)) held h.1) h.2
  all_stay s ts ws i j c d lo hi k low high held h = absurd h

  each_stays : (s : List ℕ) (t : Tree) (least : ℕ) (ws : Ways) (i j : ℕ) (c d : Captures) (lo hi k : ℕ) → lo ≤ i
      → j ≤ hi → Holds lo hi k c → DerivesEach s t least ws i j c d → Holds lo hi k d
  each_stays s t least done i j c d lo hi k low high held h = subst (Holds lo hi k) (sym h.2) held
  each_stays s t zero (next m w ws) i j c d lo hi k low high held h =
      let first = is_part s t w i m c h.0 h.1 in
      let rest = each_is_part s t zero ws m j h.0 d h.3 in
      each_stays s t zero ws m j h.0 d lo hi k (omega (arith, first.0)) high
      (stays s t w i m c h.0 lo hi k low (omega (arith, rest.0)) held h.1) h.3
  each_stays s t (suc least) (next m w ws) i j c d lo hi k low high held h =
      let first = is_part s t w i m c h.0 h.1 in
      let rest = each_is_part s t least ws m j h.0 d h.2 in
      each_stays s t least ws m j h.0 d lo hi k (omega (arith, first.0)) high
      (stays s t w i m c h.0 lo hi k low (omega (arith, rest.0)) held h.1) h.2

-- a group among the parts of a whole is set, and counts among its groups
all_set : (s : List ℕ) (ts : List Tree) (k : ℕ) (u : Tree) → IsIn (group k u) ts → (ws : Ways) (i j : ℕ)
    (c d : Captures) → DerivesAll s (trees_of ts) ws i j c d → Holds i j k d
all_set s [] k u is ws i j c d h = absurd is
all_set s (t ∷ ts) k u is done i j c d h = absurd h
all_set s (t ∷ ts) k u (inl same) (next m w ws) i j c d h =
    let rest = all_are_part s (trees_of ts) ws m j h.0 d h.2 in
    all_stay s (trees_of ts) ws m j h.0 d i j k (omega (arith, is_part s t w i m c h.0 h.1)) (omega arith)
    (group_set w (subst (λ one. Derives s one w i m c h.0) (sym same) h.1)
    (is_part s t w i m c h.0 h.1).0 rest.0) h.2
  where
    group_set : (w : Way) {e : Captures} → Derives s (group k u) w i m c e → i ≤ m → m ≤ j → Holds i j k e
    group_set (inside w) h low high = subst (Holds i j k) (sym h.2) (set_now i j k i m h.0 (omega arith) low high)
    group_set leaf h low high = absurd h
    group_set (parts ws) h low high = absurd h
    group_set (members ws) h low high = absurd h
    group_set (chosen n w) h low high = absurd h
all_set s (t ∷ ts) k u (inr later) (next m w ws) i j c d h =
    let first = is_part s t w i m c h.0 h.1 in
    let held = all_set s ts k u later ws m j h.0 d h.2 in
    record {
      part = held.part;
      is = held.is;
      behind = omega (arith, first.0, held.behind);
      ordered = held.ordered;
      within = held.within;
    }

group_counts : (ts : List Tree) (k : ℕ) (u : Tree) → IsIn (group k u) ts → k ≤ greatest_group_of (trees_of ts)
group_counts [] k u is = absurd is
group_counts (t ∷ ts) k u (inl same) =
    let here : k ≤ greatest_group t = subst (λ one. k ≤ greatest_group one) same (omega arith) in omega arith
group_counts (t ∷ ts) k u (inr later) = omega (arith, group_counts ts k u later)

cap_is : (from : ℕ) (c : Captures) (count n : ℕ) (p : ℕ × ℕ) → n < count → get c (n + 1) ≡ Some p
    → slice_get (caps_of from c count) n ≡ Some (Some (record { from = from + p.0; to = from + p.1 }))
cap_is from c count n p few is =
    let number : slice_get (range_with_len 1 count) n ≡ Some (n + 1) =
    slice_get-get_or (range_with_len 1 count) n 0 (omega (arith, length-range_with_len 1 count))
    ∙ ap Some (get_or-range_with_len 1 count n 0 few ∙ omega arith) in
    slice_get-map (cap_of from c) (range_with_len 1 count) n ∙ ap (option_map (cap_of from c)) number
    ∙ ap (λ o. Some (option_map (λ (part : ℕ × ℕ). record { from = from + part.0; to = from + part.1 }) o)) is

cat_parts : (s : List ℕ) (ts : Trees) (w : Way) (i j : ℕ) (c d : Captures) → Derives s (cat ts) w i j c d
    → (ws : Ways) × DerivesAll s ts ws i j c d
cat_parts s ts (parts ws) i j c d h = (ws, h)
cat_parts s ts leaf i j c d h = absurd h
cat_parts s ts (members ws) i j c d h = absurd h
cat_parts s ts (chosen n w) i j c d h = absurd h
cat_parts s ts (inside w) i j c d h = absurd h

is_set : (text : List ℕ) (ts : List Tree) (from n : ℕ) (u : Tree) (hit : Hit) → from ≤ length text
    → IsIn (group (n + 1) u) ts → hit_in text (cat (trees_of ts)) from ≡ Some hit → IsSet hit n
is_set text ts from n u hit low is found =
    let t : Tree = cat (trees_of ts) in
    let tells : TellsHit text t from hit = subst (FindsHit text t from) found (value_is_hit text t from) in
    let lies : LiesIn from (length text) hit =
    subst (λ o. IfSome o (LiesIn from (length text))) found (value_lies text t from low) in
    let c : Captures = tells.captures in
    let all = cat_parts (drop from text) (trees_of ts) tells.is_hit.way (hit.from - from) (hit.to - from) empty c
    tells.is_hit.shows in
    let held = all_set (drop from text) ts (n + 1) u is all.0 (hit.from - from) (hit.to - from) empty c all.1 in (
      record { from = from + held.part.0; to = from + held.part.1 },
      ap (λ groups. slice_get groups n) tells.groups
          ∙ cap_is from c (greatest_group t) n held.part (omega (arith, group_counts ts (n + 1) u is)) held.is,
      omega (arith, held.behind, lies.behind),
      omega (arith, held.ordered),
      omega (arith, held.within, lies.behind, lies.ordered),
    )

-- GIFTS

-- what a gift reads is a group that is this tree
abbrev Owns : Gift → Tree → Type 0
Owns (Text name n) t = (u : Tree) × (t ≡ group (n + 1) u)
Owns (Number name n format) t = (u : Tree) × (t ≡ group (n + 1) u)
Owns (Given name value) t = Unit {0}

abbrev PartOwns : Part → Type 0
PartOwns part = IfSome part.gift (λ gift. Owns gift part.tree)

shown_owns : (fold : Bool) (defines : Option (List ℕ)) (value : ℤ) (bytes : Option (List ℕ))
    → IfOk (shown fold defines value bytes) PartOwns
shown_owns fold defines value None = tt
shown_owns fold None value (Some bytes) = tt
shown_owns fold (Some name) value (Some bytes) = tt

valued_owns : (fold : Bool) (defines : Option (List ℕ)) (format : Format) (r : Result ℤ EvalFault)
    → IfOk (valued fold defines format r) PartOwns
valued_owns fold defines format (Ok value) = shown_owns fold defines value (prints format value)
valued_owns fold defines format (Err fault) = tt

number_owns : (known : Known) (n : ℕ) (defines : Option (List ℕ)) (format : Format) (t : Option Term)
    → IfOk (number_part known n defines format t) PartOwns
number_owns known n None format None = tt
number_owns known n (Some name) format None = (_, refl)
number_owns known n defines format (Some t) =
    valued_owns known.fold defines format (value_of known.number known.at t)

part_owns : (known : Known) (n : ℕ) (groups : Groups) (one : Item) → IfOk (part_of known n groups one) PartOwns
part_owns known n groups (item.plain bytes) = tt
part_owns known n groups (item.regex t) = tt
part_owns known n groups (item.define name t) = (_, refl)
part_owns known n groups (item.recall name) = tt
part_owns known n groups (item.number num format) = number_owns known n num.defines format num.expr

-- each gift of parts reads one of their trees
abbrev AllOwn : List Gift → List Tree → Type 0
AllOwn gifts trees = (gift : Gift) → IsIn gift gifts → (t : Tree) × Owns gift t × IsIn t trees

with_owns : (part : Part) → PartOwns part → (r : Result Parts EvalFault) → IfOk r (λ all. AllOwn all.gifts all.trees)
    → IfOk (map_parts (with_part part) r) (λ all. AllOwn all.gifts all.trees)
with_owns part own (Err fault) rest = tt
with_owns part own (Ok behind) rest = each part.gift own
  where
    later : (gift : Gift) → IsIn gift behind.gifts → (t : Tree) × Owns gift t × IsIn t (part.tree ∷ behind.trees)
    later gift is = let found = rest gift is in (found.0, found.1, inr found.2)

    each : (o : Option Gift) → IfSome o (λ gift. Owns gift part.tree)
        → AllOwn (cons_option o behind.gifts) (part.tree ∷ behind.trees)
    each None own gift is = later gift is
    each (Some one) own gift (inl same) = (part.tree, subst (λ g. Owns g part.tree) (sym same) own, inl refl)
    each (Some one) own gift (inr is) = later gift is

behind_owns : (r : Result Part EvalFault) → IfOk r PartOwns → (go : ℕ → Result Parts EvalFault)
    → ((more : ℕ) → IfOk (go more) (λ all. AllOwn all.gifts all.trees))
    → IfOk (behind_part r go) (λ all. AllOwn all.gifts all.trees)
behind_owns (Err fault) own go rest = tt
behind_owns (Ok part) own go rest = with_owns part own (go part.groups) (rest part.groups)

parts_own : (known : Known) (n : ℕ) (groups : Groups) (items : List Item)
    → IfOk (parts_from known n groups items) (λ all. AllOwn all.gifts all.trees)
parts_own known n groups [] = λ gift is. absurd is
parts_own known n groups (one ∷ items) =
    behind_owns (part_of known n groups one) (part_owns known n groups one) _
    (λ more. parts_own known (n + more) (groups_behind n groups one) items)

-- THE LAWS

-- the tree of an instance is a whole of which its gifts read parts
abbrev IsWhole : Instance → Type 0
IsWhole (undefined names) = Unit {0}
IsWhole (faulty fault) = Unit {0}
IsWhole (made t gifts) = (ts : List Tree) × (t ≡ cat (trees_of ts)) × AllOwn gifts ts

made_whole : (frame : Frame) (r : Result Parts EvalFault) → IfOk r (λ all. AllOwn all.gifts all.trees)
    → IsWhole (made_of frame r)
made_whole frame (Err fault) own = tt
made_whole frame (Ok all) own = (
  (before frame ++ all.trees) ++ behind frame,
  refl,
  λ gift is. let found = own gift is in (
    found.0,
    found.1,
    IsIn-append_left found.0 (before frame ++ all.trees) (behind frame)
        (IsIn-append_right found.0 (before frame) all.trees found.2),
  ),
)

whole_unless : (names : List (List ℕ)) (instance : Instance) → IsWhole instance → IsWhole (unless_missing names instance)
whole_unless [] instance is = is
whole_unless (name ∷ names) instance is = tt

is_whole : (known : Known) (frame : Frame) (items : List Item) → IsWhole (instance_of known frame items)
is_whole known frame items =
    whole_unless (missing known items) _ (made_whole frame _ (parts_own known 0 empty items))

all_there : (hit : Hit) (gifts : List Gift) → ((gift : Gift) → IsIn gift gifts → IsThere hit gift) → AreThere hit gifts
all_there hit [] each = tt
all_there hit (gift ∷ gifts) each = (each gift (inl refl), all_there hit gifts (λ other is. each other (inr is)))

there : (text : List ℕ) (from : ℕ) (ts : List Tree) (hit : Hit) (gift : Gift) (t : Tree) → from ≤ length text
    → hit_in text (cat (trees_of ts)) from ≡ Some hit → Owns gift t → IsIn t ts → IsThere hit gift
there text from ts hit (Text name n) t low found owns is =
    is_set text ts from n owns.0 hit low (subst (λ one. IsIn one ts) owns.1 is) found
there text from ts hit (Number name n format) t low found owns is =
    is_set text ts from n owns.0 hit low (subst (λ one. IsIn one ts) owns.1 is) found
there text from ts hit (Given name value) t low found owns is = tt

pub groups_are_set : GroupsAreSet
groups_are_set known frame items t gifts text from hit low is found =
    let whole : IsWhole (made t gifts) = subst IsWhole is (is_whole known frame items) in
    all_there hit gifts (λ gift among. let own = whole.2 gift among in
    there text from whole.0 hit gift own.0 low (subst (λ one. hit_in text one from ≡ Some hit) whole.1 found)
    own.1 own.2)

-- what can't be read is a part of the match
abbrev LiesInHit : Hit → Span → Type 0
LiesInHit hit span = (hit.from ≤ span.from) × (span.from ≤ span.to) × (span.to ≤ hit.to)

part_lies : (hit : Hit) (n : ℕ) → IsSet hit n → LiesInHit hit (span_at hit.groups n)
part_lies hit n is =
    let cap : cap_at hit.groups n ≡ is.0 = ap held is.1 in
    subst (λ (c : Cap). LiesInHit hit (span_of c.from (c.to - c.from))) (sym cap)
    (is.2, omega arith, omega (arith, is.3, is.4))

bound_lies : (fold : Bool) (text : List ℕ) (hit : Hit) (one : Gift) → IsThere hit one
    → IfErr (bound_of fold text hit.groups one) (LiesInHit hit)
bound_lies fold text hit (Text name n) is = tt
bound_lies fold text hit (Number name n format) is = each (number_read fold format (text_at text hit.groups n))
  where
    each : (o : Option ℤ) → IfErr (number_bound name (span_at hit.groups n) o) (LiesInHit hit)
    each (Some value) = tt
    each None = part_lies hit n is
bound_lies fold text hit (Given name value) is = tt

behind_lies : (hit : Hit) (fresh : List Binding) (r : Result (List Binding) Span) → IfErr r (LiesInHit hit)
    → IfErr (behind_bound fresh r) (LiesInHit hit)
behind_lies hit fresh (Ok others) h = tt
behind_lies hit fresh (Err span) h = h

with_lies : (hit : Hit) (b : Result Binding Span) → IfErr b (LiesInHit hit) → (r : Result (List Binding) Span)
    → IfErr r (LiesInHit hit) → IfErr (with_bound b r) (LiesInHit hit)
with_lies hit (Ok one) first r rest = behind_lies hit (one ∷ []) r rest
with_lies hit (Err span) first r rest = first

unreadable : (fold : Bool) (text : List ℕ) (hit : Hit) (gifts : List Gift) → AreThere hit gifts
    → IfErr (all_bound fold text hit.groups gifts) (LiesInHit hit)
unreadable fold text hit [] are = tt
unreadable fold text hit (one ∷ gifts) are =
    with_lies hit _ (bound_lies fold text hit one are.0) _ (unreadable fold text hit gifts are.1)

pub unreadable_lies : UnreadableLies
unreadable_lies pattern vars text from line span low h =
    each (instance_of known pattern.frame (items_view pattern.pieces)) refl h
  where
    known : Known
    known = known_of vars line pattern.fold

    Goal : Type 0
    Goal = (from ≤ span.from) × (span.from ≤ span.to) × (span.to ≤ length text)

    told : (hit : Hit) → LiesIn from (length text) hit → (r : Result (List Binding) Span) → IfErr r (LiesInHit hit)
        → answered hit r ≡ Unreadable span → Goal
    told hit lies (Ok fresh) bad h = cc
    told hit lies (Err part) bad h =
        let same : part ≡ span = cc in
        let is : LiesInHit hit span = subst (LiesInHit hit) same bad in
        (omega (arith, lies.behind, is.0), is.1, omega (arith, lies.within, is.2))

    found : (t : Tree) (gifts : List Gift) → instance_of known pattern.frame (items_view pattern.pieces) ≡ made t gifts
        → (o : Option Hit) → hit_in text t from ≡ o → answer_of pattern.fold text gifts o ≡ Unreadable span → Goal
    found t gifts is None at h = cc
    found t gifts is (Some hit) at h =
        told hit (subst (λ o. IfSome o (LiesIn from (length text))) at (value_lies text t from low))
        (all_bound pattern.fold text hit.groups gifts)
        (unreadable pattern.fold text hit gifts
        (groups_are_set known pattern.frame (items_view pattern.pieces) t gifts text from hit low is at)) h

    each : (instance : Instance) → instance_of known pattern.frame (items_view pattern.pieces) ≡ instance
        → sought_of pattern.fold text from instance ≡ Unreadable span → Goal
    each (undefined names) is h = cc
    each (faulty fault.Undefined) is h = cc
    each (faulty fault.Range) is h = cc
    each (faulty fault.ZeroDivisor) is h = cc
    each (made t gifts) is h = found t gifts is (hit_in text t from) refl h
