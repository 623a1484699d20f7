-- How long a walk may take: each further directory makes the room no greater, and where the tree tells what stands in it a
-- directory that was looked at has room. Idea: what is walked through was counted, and all that was counted is in bounds.
-- The hard one is `counted`, that a directory lists no more items than were counted.
use Rattle.lit_find.proofs.Names.{◌≡◌, ℕ, ◌+◌, ◌-◌, ◌≤◌, ◌||◌, Bool, true, false, cond, List, [], ◌∷◌, ◌++◌, length, not, sym, ap, ◌∙◌, subst, arith, Contains, count_by, find, list_any, option_map, unwrap_or, eq_by_cmp_equiv, Lists, names_differ, Item, Node, Parts, text_of, Counts, Extends, count_items, SuiteRoot, Looked, IsThrough, room, same_text, spent, was_walked, Walk}
use Rattle.std.specs.Str.{bytes_eq}
use Rattle.std.proofs.lemmas.Bool.{or_left}
use Rattle.std.proofs.lemmas.List.Sums.{count_by-le-length, sum_by-append}
use Rattle.std.proofs.lemmas.Cmp.{nat_list_cmp_total}
use Rattle.std.proofs.lemmas.Slice.Eq.{bytes_eq-Decides}
use Rattle.lit_paths.proofs.PartLemmas.{and_left, and_right, false_of}
use Rattle.lit_look.proofs.ListLemmas.{at_most, first_in, found_in, later_in, or_more, sums_more}
use Rattle.lit_find.proofs.InsideLemmas.{mapped, named_item}
use Rattle.lit_find.proofs.PlaceLemmas.{items_length}

-- what a directory spends
abbrev weight : Walk → Looked → ℕ
weight walk looked = cond (was_walked walk (text_of looked.dir)) looked.count 0

-- ---- each directory

pub room_entered : {looked : Looked} {items : List Item} {known : SuiteRoot} {old new : Walk}
    → IsThrough looked items known old new → length items ≤ 1000000 - old.taken → room new ≤ room old
room_entered {looked = looked} {items = items} {known = known} {old = old} {new = new} is few =
    let more : length new.pending ≤ length old.pending + length items =
    subst (λ walk. length walk.pending ≤ length old.pending + length items) (sym is.sorted)
    (items_length (unwrap_or looked.suite known) looked.dir items
    (record { found = old.found; walked = new.walked; taken = new.taken; pending = old.pending })) in
    omega (arith, is.taken)

-- ---- where the tree tells what stands in it

abbrev bit : Bool → ℕ
bit b = cond b 1 0

-- all names of some items are among those of others
fewer : (xs ys : List Item) → names_differ xs ≡ true
    → ((x : Item) → Contains xs x → (y : Item) × Contains ys y × (y.name ≡ x.name))
    → length xs ≤ count_by (λ y. list_any (λ x. bytes_eq x.name y.name) xs) ys
fewer [] ys differ each = omega arith
fewer (x ∷ xs) ys differ each =
    let has = λ (name : List ℕ). list_any (λ other. bytes_eq other.name name) xs in
    let (y, within, same) = each x (first_in x xs) in
    let apart : has y.name ≡ false =
    ap has same ∙ false_of (has x.name) (and_left (not (has x.name)) (names_differ xs) differ) in
    let low : bit (has y.name) ≡ 0 = ap bit apart in
    let high : bit (bytes_eq x.name y.name || has y.name) ≡ 1 = ap bit
    (or_left (bytes_eq x.name y.name) (has y.name) ((bytes_eq-Decides x.name y.name).1 (sym same))) in
    let later = fewer xs ys (and_right (not (has x.name)) (names_differ xs) differ) (λ z h. each z (later_in x z xs h)) in
    let more = sums_more (λ z. bit (has z.name)) (λ z. bit (bytes_eq x.name z.name || has z.name)) 1 ys y
    (λ z. or_more (bytes_eq x.name z.name) (has z.name) 1) within (omega (arith, low, high)) in
    omega (arith, later, more)

-- a directory lists no more items than were counted
pub counted : (nodes : List Node) (dir : Parts) (items : List Item) (count : ℕ) → Lists nodes (text_of dir) items
    → Counts nodes dir count → length items ≤ count
counted nodes dir items count lists counts =
    omega (
      arith,
      counts.all,
      count_by-le-length (λ y. list_any (λ x. bytes_eq x.name y.name) items) counts.items,
      fewer items counts.items lists.differ (λ x within.
          let (y, found, is) = mapped (find (λ one. bytes_eq one.name x.name) counts.items) x.kind
          (counts.lists.kinds x.name ∙ sym (lists.kinds x.name)
          ∙ ap (option_map (λ one. one.kind)) (named_item items x lists.differ within)) in
          let (inside, same) = found_in (λ one. bytes_eq one.name x.name) counts.items y found in
          (y, inside, (bytes_eq-Decides y.name x.name).0 same)),
    )

pub spent_longer : (old new : List Looked) (walk : Walk) → Extends old new → spent old walk ≤ spent new walk
spent_longer old new walk (more, is) =
    let sum = sum_by-append (weight walk) old more in
    let same : spent new walk ≡ spent (old ++ more) walk = ap (λ seen. spent seen walk) is in
    omega arith

-- of a directory that wasn't walked through nothing was spent
module _ (seen : List Looked) (looked : Looked) (walk : Walk) (within : Contains seen looked)
    (fresh : was_walked walk (text_of looked.dir) ≡ false) where
  was : weight walk looked ≡ 0
  was = ap (λ b. cond b looked.count 0) fresh

  pub has_room : spent seen walk + looked.count ≤ count_items seen
  has_room =
      sums_more (weight walk) (λ y. y.count) looked.count seen looked
      (λ y. at_most (was_walked walk (text_of y.dir)) y.count) within (omega (arith, was))

  pub spent_more : {items : List Item} {known : SuiteRoot} {new : Walk} → IsThrough looked items known walk new
      → spent seen walk + looked.count ≤ spent seen new
  spent_more {new = new} is =
      let text = text_of looked.dir in
      let now : weight new looked ≡ looked.count = ap (λ b. cond b looked.count 0)
      (is.marked text ∙ or_left (same_text text text) (was_walked walk text) ((eq_by_cmp_equiv nat_list_cmp_total).refl text)) in
      sums_more (weight walk) (weight new) looked.count seen looked
      (λ y. subst (λ b. weight walk y ≤ cond b y.count 0) (sym (is.marked (text_of y.dir)))
      (or_more (same_text (text_of y.dir) text) (was_walked walk (text_of y.dir)) y.count)) within
      (omega (arith, was, now))
