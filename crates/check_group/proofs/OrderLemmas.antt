-- Ranges that stand in order.
-- Shown: those that end by an offset stand in front, none that is behind a match overlaps it, and a range that overlaps none
-- is put among them in order. Idea: by induction over the ranges. The hard one is `order_placed`.
use Rattle.std.proofs.Common.{◌≡◌, ℕ, zero, suc, ◌+◌, ◌<◌, ◌≤◌, Bool, true, false, cond, ◌&&◌, ◌||◌, ◌==◌, nat_lt, List, [], ◌∷◌, ◌++◌, length, get_or, take, drop, Option, Some, None, IfSome, refl, sym, ◌∙◌, ap, subst, arith, All, add-one}
use Rattle.std.specs.List.{AllByRecursion}
use Rattle.std.proofs.lemmas.Bool.{lt-ltb, le-ltb}
use Rattle.std.proofs.lemmas.Bool.Decides.{nat_tests}
use Rattle.std.proofs.lemmas.List.Elements.{All-from_recursion, recursion_from_All}
use Rattle.tt_base.specs.declared.place.Span.{Span}
use Rattle.check_group.specs.Group.{AreInOrder, EndsBy, is_lower, lowest, overlaps, placed_among}

-- ---- in front of an offset

pub order_drop : (at : ℕ) (ranges : List Span) → AreInOrder ranges → AreInOrder (drop at ranges)
order_drop zero ranges order = order
order_drop (suc at) [] order = tt
order_drop (suc at) (range ∷ ranges) order = order_drop at ranges order.1

ends_up_to : (from k : ℕ) (ranges : List Span) (d : Span) → AreInOrder ranges → k < length ranges → (get_or ranges k d).to ≤ from
    → AllByRecursion (EndsBy from) (take (suc k) ranges)
ends_up_to from zero [] d order low ends = absurd (omega (arith, low))
ends_up_to from zero (range ∷ ranges) d order low ends = (ends, tt)
ends_up_to from (suc k) [] d order low ends = absurd (omega (arith, low))
ends_up_to from (suc k) (range ∷ ranges) d order low ends =
    let inside : k < length ranges = omega (arith, low) in
    let one = get_or ranges k d in
    let behind : range.to ≤ one.from = All-from_recursion (λ later. range.to ≤ later.from) ranges order.0 k d inside in
    (omega (arith, behind, one.ordered, ends), ends_up_to from k ranges d order.1 inside ends)

-- where one ends by an offset, those in front of it do
pub all_up_to : (from k : ℕ) (ranges : List Span) (d : Span) → AreInOrder ranges → k < length ranges → (get_or ranges k d).to ≤ from
    → All (EndsBy from) (take (k + 1) ranges)
all_up_to from k ranges d order low ends =
    subst (λ n. All (EndsBy from) (take n ranges)) (sym (add-one k))
    (All-from_recursion (EndsBy from) (take (suc k) ranges) (ends_up_to from k ranges d order low ends))

-- what ends by an offset ends before the next
pub all_before : (from last : ℕ) (ranges : List Span) → last < from → All (EndsBy last) ranges → All (λ range. range.to < from) ranges
all_before from last ranges low each = λ k d inside. let ends = each k d inside in omega (arith, low, ends)

-- ---- what a match overlaps

and_false : (b : Bool) → (b && false) ≡ false
and_false true = refl
and_false false = refl

apart : (m range : Span) → m.to ≤ range.from → overlaps m range ≡ false
apart m range low = ap (λ b. nat_lt m.from range.to && b) (le-ltb range.from m.to low) ∙ and_false (nat_lt m.from range.to)

none_behind : (m range : Span) (ranges : List Span) → m.to ≤ range.from → AllByRecursion (λ later. range.to ≤ later.from) ranges → lowest m ranges ≡ None
unfolding lowest
none_behind m range [] low each = refl
none_behind m range (one ∷ ranges) low each =
    ap (λ b. cond b (Some one) (lowest m ranges)) (apart m one (omega (arith, low, range.ordered, each.0))) ∙ none_behind m range ranges low each.1

-- none from one that begins behind it
pub none_from : (m : Span) (k : ℕ) (ranges : List Span) (d : Span) → AreInOrder ranges → k < length ranges → m.to ≤ (get_or ranges k d).from
    → lowest m (drop k ranges) ≡ None
unfolding lowest
none_from m zero [] d order inside low = refl
none_from m zero (range ∷ ranges) d order inside low =
    ap (λ b. cond b (Some range) (lowest m ranges)) (apart m range low) ∙ none_behind m range ranges low order.0
none_from m (suc k) [] d order inside low = refl
none_from m (suc k) (range ∷ ranges) d order inside low = none_from m k ranges d order.1 (omega (arith, inside)) low

has_cond : (P : Span → Type 0) (test : Bool) (range : Span) (rest : Option Span) → (test ≡ true → P range) → IfSome rest P
    → IfSome (cond test (Some range) rest) P
has_cond P true range rest first later = first refl
has_cond P false range rest first later = later

lowest_each : (P : Span → Type 0) (m : Span) (ranges : List Span) → AllByRecursion P ranges → IfSome (lowest m ranges) P
unfolding lowest
lowest_each P m [] each = tt
lowest_each P m (range ∷ ranges) each =
    has_cond P (overlaps m range) range (lowest m ranges) (λ _. each.0) (lowest_each P m ranges each.1)

-- what all have, the lowest has
pub lowest_has : (P : Span → Type 0) (m range : Span) (ranges : List Span) → AllByRecursion P ranges → lowest m ranges ≡ Some range → P range
lowest_has P m range ranges each is = subst (λ o. IfSome o P) is (lowest_each P m ranges each)

overlaps_past : (m range : Span) → overlaps m range ≡ true → m.from < range.to
overlaps_past m range is = grind (arith, nat_tests)

lowest_past_each : (m : Span) (ranges : List Span) → IfSome (lowest m ranges) (λ range. m.from < range.to)
unfolding lowest
lowest_past_each m [] = tt
lowest_past_each m (range ∷ ranges) =
    has_cond (λ one. m.from < one.to) (overlaps m range) range (lowest m ranges) (overlaps_past m range) (lowest_past_each m ranges)

-- it ends behind the match's start
pub lowest_past : (m range : Span) (ranges : List Span) → lowest m ranges ≡ Some range → m.from < range.to
lowest_past m range ranges is = subst (λ o. IfSome o (λ one. m.from < one.to)) is (lowest_past_each m ranges)

-- ---- a range put among them

-- what ends where a part begins, or before, is lower
pub lower_if : (range m : Span) → range.to ≤ m.from → m.from < m.to → is_lower range m ≡ true
lower_if range m ends some = grind (arith, nat_tests, range.ordered)

-- and so is what ends before it
lower_before : (range m : Span) → range.to < m.from → is_lower range m ≡ true
lower_before range m ends =
    ap (λ b. b || (range.from == m.from && nat_lt range.to m.to)) (lt-ltb range.from m.from (omega (arith, range.ordered, ends)))

placed_front : (m : Span) (at : ℕ) (ranges : List Span) → AllByRecursion (λ range. range.to < m.from) (take at ranges)
    → take at ranges ++ placed_among m (drop at ranges) ≡ placed_among m ranges
unfolding placed_among
placed_front m zero ranges each = refl
placed_front m (suc at) [] each = refl
placed_front m (suc at) (range ∷ ranges) each =
    ap (λ rest. range ∷ rest) (placed_front m at ranges each.1)
    ∙ sym (ap (λ b. cond b (range ∷ placed_among m ranges) (m ∷ range ∷ ranges)) (lower_before range m each.0))

-- those that end before a part stay in front of it
pub front_stays : (m : Span) (at : ℕ) (ranges : List Span) → All (λ range. range.to < m.from) (take at ranges)
    → take at ranges ++ placed_among m (drop at ranges) ≡ placed_among m ranges
front_stays m at ranges each =
    placed_front m at ranges (recursion_from_All (λ range. range.to < m.from) (take at ranges) each)

each_cond : (P : Span → Type 0) (m range : Span) (ranges rest : List Span) (test : Bool) → P m → P range → AllByRecursion P ranges
    → AllByRecursion P rest → AllByRecursion P (cond test (range ∷ rest) (m ∷ range ∷ ranges))
each_cond P m range ranges rest true one first others behind = (first, behind)
each_cond P m range ranges rest false one first others behind = (one, (first, others))

each_placed : (P : Span → Type 0) (m : Span) (ranges : List Span) → P m → AllByRecursion P ranges → AllByRecursion P (placed_among m ranges)
unfolding placed_among
each_placed P m [] one each = (one, tt)
each_placed P m (range ∷ ranges) one each =
    each_cond P m range ranges (placed_among m ranges) (is_lower range m) one each.0 each.1 (each_placed P m ranges one each.1)

all_later : (a b : ℕ) (ranges : List Span) → b ≤ a → AllByRecursion (λ later. a ≤ later.from) ranges → AllByRecursion (λ later. b ≤ later.from) ranges
all_later a b [] low each = tt
all_later a b (range ∷ ranges) low each = (omega (arith, low, each.0), all_later a b ranges low each.1)

-- one that is lower and doesn't overlap ends before the other begins, and so the other way round
lower_ends : (range m : Span) → is_lower range m ≡ true → overlaps m range ≡ false → range.to ≤ m.from
lower_ends range m lower free = grind (arith, nat_tests, range.ordered, m.ordered)

not_lower_begins : (range m : Span) → is_lower range m ≡ false → overlaps m range ≡ false → m.to ≤ range.from
not_lower_begins range m lower free = grind (arith, nat_tests, range.ordered, m.ordered)

order_cond : (m range : Span) (ranges : List Span) (test : Bool) → is_lower range m ≡ test → overlaps m range ≡ false
    → AllByRecursion (λ later. range.to ≤ later.from) ranges → AreInOrder ranges → AreInOrder (placed_among m ranges)
    → AreInOrder (cond test (range ∷ placed_among m ranges) (m ∷ range ∷ ranges))
order_cond m range ranges true lower free each order placed =
    (each_placed (λ later. range.to ≤ later.from) m ranges (lower_ends range m lower free) each, placed)
order_cond m range ranges false lower free each order placed =
    let before = not_lower_begins range m lower free in
    ((before, all_later range.to m.to ranges (omega (arith, before, range.ordered)) each), (each, order))

free_cond : (test : Bool) (range : Span) (rest : Option Span) → cond test (Some range) rest ≡ None → (test ≡ false) × (rest ≡ None)
free_cond true range rest is = cc
free_cond false range rest is = (refl, is)

-- what overlaps none of some ranges
pub free_of : (m range : Span) (ranges : List Span) → lowest m (range ∷ ranges) ≡ None → (overlaps m range ≡ false) × (lowest m ranges ≡ None)
unfolding lowest
free_of m range ranges free = free_cond (overlaps m range) range (lowest m ranges) free

pub order_placed : (m : Span) (ranges : List Span) → AreInOrder ranges → lowest m ranges ≡ None → AreInOrder (placed_among m ranges)
unfolding placed_among
order_placed m [] order free = (tt, tt)
order_placed m (range ∷ ranges) order free =
    let both = free_of m range ranges free in
    order_cond m range ranges (is_lower range m) refl both.0 order.0 order.1 (order_placed m ranges order.1 both.1)
