-- Walking a tree of prefixes.
-- Shown: a tree that gets more turns keeps those that it has, and at each length of a walk each prefix that stands there and
-- isn't shorter still leads to its end.
-- By the length; the hard ones are `added`, where a prefix has joined the tree, and `short_next`, where one may end.
use Rattle.std.proofs.Common.{◌≡◌, ◌⊎◌, ℕ, ◌+◌, ◌<◌, ◌≤◌, true, false, List, [], ◌∷◌, ◌++◌, Option, None, Some, length, get_or, take, drop, refl, sym, subst, ◌∙◌, ap, inl, inr, arith, drop-cons, add-one, ⊎_elim, IfSome}
use Rattle.std.proofs.lemmas.Bool.{cases_Bool, cases_lt}
use Rattle.std.proofs.lemmas.List.{drop_all, get_or-take, length-take, take_more}
use Rattle.std.specs.Cmp.Lexicographic.{same_text, other_text}
use Rattle.tt_base.specs.Occurrence.{begins_with}
use Rattle.std.proofs.Math.Logic.{∥∥₁_elim, ∥∥₁_map, ∥∥₁_prop}
use Rattle.std.proofs.lemmas.Grind.{not_there}
use Rattle.prefix_tree.proofs.PrefixLemmas.{counts_by_value, meant_counts, meant_once, stable}
use Rattle.prefix_tree.specs.Prefix.{CountsBefore, IsMeant, Stands, meant}
use Rattle.prefix_tree.specs.Tree.{End, EndOnly, EndStay, IsTree, Leads, LeadsToEnd, Next, NextOnly, NextStay, ended}
use Rattle.prefix_tree.specs.declared.standing.Standing.{Standing}

-- ---- more turns

pub leads_stay : (old new : Next) → NextStay old new → (owner count : ℕ) (text : List ℕ) (last : ℕ)
    → Leads old owner count text last → Leads new owner count text last
unfolding Leads
leads_stay old new stay owner count [] last leads = leads
leads_stay old new stay owner count (byte ∷ rest) last leads =
    (leads.0, stay owner count byte leads.0 leads.1, leads_stay old new stay leads.0 (count + 1) rest last leads.2)

pub leads_nowhere : (next : Next) (owner count : ℕ) → Leads next owner count [] owner
unfolding Leads
leads_nowhere next owner count = refl

pub leads_more : (next : Next) (owner count : ℕ) (text : List ℕ) (mid byte to : ℕ) → Leads next owner count text mid
    → next mid (count + length text) byte ≡ Some to → Leads next owner count (text ++ byte ∷ []) to
unfolding Leads
leads_more next owner count [] mid byte to leads is =
    (to, ap (λ k. next k count byte) leads ∙ ap (λ n. next mid n byte) (omega arith) ∙ is, refl)
leads_more next owner count (first ∷ rest) mid byte to leads is = (
  leads.0,
  leads.1,
  leads_more next leads.0 (count + 1) rest mid byte to leads.2 (ap (λ n. next mid n byte) (omega arith) ∙ is),
)

-- each turn is that of a prefix
abbrev pub AreTurns : List (List ℕ) → Next → Type 0
AreTurns prefixes next = (owner length byte to : ℕ) → next owner length byte ≡ Some to
    → take (length + 1) (get_or prefixes to []) ≡ take length (get_or prefixes owner []) ++ byte ∷ []

-- so are those to which one of a prefix comes
pub turns_more : (prefixes : List (List ℕ)) (old new : Next) (owner count byte index : ℕ) → AreTurns prefixes old
    → take (count + 1) (get_or prefixes index []) ≡ take count (get_or prefixes owner []) ++ byte ∷ []
    → NextOnly old new owner count byte index → AreTurns prefixes new
turns_more prefixes old new owner count byte index turns this only from length one to is =
    ⊎_elim (λ (was : old from length one ≡ Some to). turns from length one to was)
    (λ (new : (from ≡ owner) × (length ≡ count) × (one ≡ byte) × (to ≡ index)).
    ap (λ n. take (n + 1) (get_or prefixes to [])) new.1 ∙ ap (λ i. take (count + 1) (get_or prefixes i [])) new.3 ∙ this
    ∙ ap (λ i. take count (get_or prefixes i []) ++ byte ∷ []) (sym new.0)
    ∙ ap (λ n. take n (get_or prefixes from []) ++ byte ∷ []) (sym new.1)
    ∙ ap (λ b. take length (get_or prefixes from []) ++ b ∷ []) (sym new.2))
    (only from length one to is)

-- with a prefix's turns and its end the tree has one prefix more
pub added : (prefixes : List (List ℕ)) (index : ℕ) (old new : Next) (end ends : End) (owner : ℕ)
    → IsTree old end prefixes index → NextStay old new → EndStay end ends
    → AreTurns prefixes new
    → EndOnly end ends owner (length (get_or prefixes index [])) index
    → Leads new 0 0 (get_or prefixes index []) owner
    → take (length (get_or prefixes index [])) (get_or prefixes owner []) ≡ get_or prefixes index []
    → ((to : ℕ) × (ends owner (length (get_or prefixes index [])) ≡ Some to))
    → IsTree new ends prefixes (index + 1)
added prefixes index old new end ends owner tree stay end_stay turns only leads same ended =
    record {
      turns = turns;
      ends = all_ends;
      whole = λ i below. ⊎_elim (λ (before : i < index). led_before i before)
          (λ (high : index ≤ i). subst Led (at_index i below high) led_here) (cases_lt i index);
    }
  where
    all_ends : (from count to : ℕ) → ends from count ≡ Some to
        → (to < index + 1) × (get_or prefixes to [] ≡ take count (get_or prefixes from []))
    all_ends from count to is =
        ⊎_elim
        (λ (was : end from count ≡ Some to). (omega (arith, (tree.ends from count to was).0), (tree.ends from count to was).1))
        (λ (new : (from ≡ owner) × (count ≡ length (get_or prefixes index [])) × (to ≡ index)). (
          omega (arith, new.2),
          ap (λ i. get_or prefixes i []) new.2 ∙ sym same
              ∙ ap (λ n. take n (get_or prefixes owner [])) (sym new.1)
              ∙ ap (λ i. take count (get_or prefixes i [])) (sym new.0),
        ))
        (only from count to is)

    Led : ℕ → Type 0
    Led i = LeadsToEnd new ends 0 0 (get_or prefixes i []) (length (get_or prefixes i [])) i

    led_before : (i : ℕ) → i < index → LeadsToEnd new ends 0 0 (get_or prefixes i []) (length (get_or prefixes i [])) i
    led_before i before =
        let was = tree.whole i before in
        (was.0, was.1, leads_stay old new stay 0 0 _ was.0 was.2, end_stay was.0 _ was.1 was.3, was.4)

    led_here : LeadsToEnd new ends 0 0 (get_or prefixes index []) (length (get_or prefixes index [])) index
    led_here = (owner, ended.0, leads, ended.1, omega (arith, (all_ends owner _ ended.0 ended.1).0))

    at_index : (i : ℕ) → i < index + 1 → index ≤ i → index ≡ i
    at_index i below high = omega arith

-- ---- what stands

module _ (prefixes : List (List ℕ)) (text : List ℕ) where
  -- the bytes of one that stands are the text's
  front : (one : Standing) → Stands prefixes text one → get_or prefixes one.index [] ≡ take one.length text
  front one stands =
      same_text (get_or prefixes one.index []) (take (length (get_or prefixes one.index [])) text) (sym stands.begins)
      ∙ ap (λ n. take n text) stands.long

  pub no_longer : (one : Standing) → Stands prefixes text one → one.length ≤ length text
  no_longer one stands =
      omega (arith, sym stands.long ∙ ap length (front one stands), length-take one.length text)

  -- what is that value lies in the text, and among the prefixes
  pub within_by_value : (found : Option Standing) → found ≡ meant prefixes text → IfSome found (λ one. one.length ≤ length text)
  within_by_value None is = tt
  within_by_value (Some one) is = no_longer one (counts_by_value prefixes text (Some one) is).0

  pub among_by_value : (found : Option Standing) → found ≡ meant prefixes text → IfSome found (λ one. one.index < length prefixes)
  among_by_value None is = tt
  among_by_value (Some one) is = (counts_by_value prefixes text (Some one) is).0.within

  -- a front of the text stands
  fronts_stand : (index count : ℕ) → index < length prefixes → get_or prefixes index [] ≡ take count text → count ≤ length text
      → Stands prefixes text (record { index = index; length = count })
  fronts_stand index count inside is within =
      let long : length (get_or prefixes index []) ≡ count = omega (arith, ap length is, length-take count text) in
      record {
        within = inside;
        begins = ⊎_elim (λ (yes : begins_with text (get_or prefixes index []) ≡ true). yes)
            (λ (no : begins_with text (get_or prefixes index []) ≡ false).
            absurd (other_text (get_or prefixes index []) (take (length (get_or prefixes index [])) text) (sym no)
            (is ∙ ap (λ n. take n text) (sym long))))
            (cases_Bool (begins_with text (get_or prefixes index [])));
        long = long;
      }

  -- ---- along a text

  -- of those that stand and are shorter than this one counts, or none stands
  abbrev pub MeantShort : ℕ → Option Standing → Type 0
  MeantShort limit None = (one : Standing) → one.length < limit → Stands prefixes text one → ⊥
  MeantShort limit (Some best) =
      Stands prefixes text best × ((one : Standing) → one.length < limit → Stands prefixes text one → CountsBefore best one)

  -- at the end each one that stands was looked at
  pub short_all : (limit : ℕ) (best : Option Standing) → ((one : Standing) → Stands prefixes text one → one.length < limit)
      → MeantShort limit best → IsMeant prefixes text best
  short_all limit None all so_far = λ one stands. so_far one (all one stands) stands
  short_all limit (Some best) all so_far = (so_far.0, λ one stands. so_far.1 one (all one stands) stands)

  -- each one that stands and isn't shorter leads to its end
  abbrev pub Follows : Next → End → ℕ → ℕ → Type 0
  Follows next end owner count = (one : Standing) → Stands prefixes text one → count ≤ one.length
      → LeadsToEnd next end owner count (drop count (get_or prefixes one.index [])) one.length one.index

  module _ (next : Next) (end : End) (tree : IsTree next end prefixes (length prefixes)) where
    pub follows_all : Follows next end 0 0
    follows_all one stands low =
        subst (λ n. LeadsToEnd next end 0 0 (get_or prefixes one.index []) n one.index) stands.long
        (tree.whole one.index stands.within)

    module _ (owner count : ℕ) (within : count ≤ length text)
        (same : take count (get_or prefixes owner []) ≡ take count text) (follows : Follows next end owner count) where
      -- one that has this length ends here
      ends_here : (one : Standing) → Stands prefixes text one → one.length ≡ count
          → (to : ℕ) × (end owner count ≡ Some to) × (to ≤ one.index)
      unfolding Leads
      ends_here one stands is =
          let led = follows one stands (omega (arith, is)) in
          let none : drop count (get_or prefixes one.index []) ≡ [] =
          drop_all count (get_or prefixes one.index []) (omega (arith, stands.long, is)) in
          let here : owner ≡ led.0 = subst (λ l. Leads next owner count l led.0) none led.2 in
          (led.1, ap (λ k. end k count) here ∙ ap (end led.0) (sym is) ∙ led.3, led.4)

      less_or_at : (k : ℕ) → k < count + 1 → (k < count) ⊎ (k ≡ count)
      less_or_at k below =
          ⊎_elim (λ (less : k < count). inl less) (λ (high : count ≤ k). inr (omega arith)) (cases_lt k count)

      -- the one that ends here counts, or else the one before
      pub short_next : (found : Option ℕ) (best : Option Standing) → end owner count ≡ found → MeantShort count best
          → MeantShort (count + 1) (ended found count best)
      short_next (Some index) best is so_far =
          let good = tree.ends owner count index is in (
            fronts_stand index count good.0 (good.1 ∙ same) within,
            λ one below stands. ⊎_elim (λ (less : one.length < count). inl less)
                (λ (at : one.length ≡ count). let here = ends_here one stands at in
                let this : index ≡ here.0 = some_same index here.0 (sym is ∙ here.1) in
                inr (at, omega (arith, this, here.2))) (less_or_at one.length below),
          )
        where
          some_same : (a b : ℕ) → Some a ≡ Some b → a ≡ b
          some_same a b e = cc
      short_next None None is so_far =
          λ one below stands. ⊎_elim (λ (less : one.length < count). so_far one less stands)
          (λ (at : one.length ≡ count). let here = ends_here one stands at in none_some here.0 (sym is ∙ here.1))
          (less_or_at one.length below)
        where
          none_some : (a : ℕ) → None ≡ Some a → ⊥
          none_some a e = cc
      short_next None (Some best) is so_far = (
        so_far.0,
        λ one below stands. ⊎_elim (λ (less : one.length < count). so_far.1 one less stands)
            (λ (at : one.length ≡ count). let here = ends_here one stands at in absurd (none_some here.0 (sym is ∙ here.1)))
            (less_or_at one.length below),
      )
        where
          none_some : (a : ℕ) → None ≡ Some a → ⊥
          none_some a e = cc

      -- one that is longer goes on by the text's next byte
      goes_on : (one : Standing) → Stands prefixes text one → count < one.length
          → (to : ℕ) × (next owner count (get_or text count 0) ≡ Some to)
          × LeadsToEnd next end to (count + 1) (drop (count + 1) (get_or prefixes one.index [])) one.length one.index
      unfolding Leads
      goes_on one stands longer =
          let word = get_or prefixes one.index [] in
          let opened : drop count word ≡ get_or word count 0 ∷ drop (count + 1) word =
          drop-cons word count 0 (omega (arith, stands.long)) ∙ ap (λ n. get_or word count 0 ∷ drop n word) (sym (add-one count)) in
          let byte : get_or word count 0 ≡ get_or text count 0 =
          ap (λ l. get_or l count 0) (front one stands) ∙ get_or-take one.length text count 0 longer in
          let led = follows one stands (omega (arith, longer)) in
          let turned = subst (λ l. Leads next owner count l led.0) opened led.2 in
          (turned.0, ap (next owner count) (sym byte) ∙ turned.1, (led.0, led.1, turned.2, led.3, led.4))

      pub follows_next : (to : ℕ) → next owner count (get_or text count 0) ≡ Some to → Follows next end to (count + 1)
      follows_next to is one stands low =
          let on = goes_on one stands (omega (arith, low)) in
          subst (λ k. LeadsToEnd next end k (count + 1) (drop (count + 1) (get_or prefixes one.index [])) one.length one.index)
          (some_same on.0 to (sym on.1 ∙ is)) on.2
        where
          some_same : (a b : ℕ) → Some a ≡ Some b → a ≡ b
          some_same a b e = cc

      pub none_longer : next owner count (get_or text count 0) ≡ None → (one : Standing) → Stands prefixes text one
          → one.length < count + 1
      none_longer is one stands =
          ⊎_elim (λ (longer : count < one.length). absurd (some_none _ (sym (goes_on one stands longer).1 ∙ is)))
          (λ (low : one.length ≤ count). omega (arith, low)) (cases_lt count one.length)
        where
          some_none : (a : ℕ) → Some a ≡ None → ⊥
          some_none a e = cc

    -- the front that a turn leads to is the text's
    pub same_next : (owner count to : ℕ) → count < length text → take count (get_or prefixes owner []) ≡ take count text
        → next owner count (get_or text count 0) ≡ Some to
        → take (count + 1) (get_or prefixes to []) ≡ take (count + 1) text
    same_next owner count to inside same is =
        tree.turns owner count (get_or text count 0) to is ∙ ap (λ l. l ++ get_or text count 0 ∷ []) same
        ∙ sym (take_more text count 0 inside)

-- ---- a walk, whose facts the tree hides

-- a walk along a text has come to a front, and the best so far counts among those that are shorter
pub record Walked (prefixes : List (List ℕ)) (text : List ℕ) (next : Next) (end : End) (owner count : ℕ) (best : Option Standing) : Type 0 where
  pub same : take count (get_or prefixes owner []) ≡ take count text
  pub follows : Follows prefixes text next end owner count
  pub short : MeantShort prefixes text count best

module _ (prefixes : List (List ℕ)) (text : List ℕ) (next : Next) (end : End)
    (tree : ∥ IsTree next end prefixes (length prefixes) ∥₁) where
  pub walk_begins : ∥ Walked prefixes text next end 0 0 None ∥₁
  walk_begins = ∥∥₁_map tree (λ tree. record { same = refl; follows = follows_all prefixes text next end tree; short = λ one below. absurd (none_below one below) })
    where
      none_below : (one : Standing) → one.length < 0 → ⊥
      none_below one below = omega arith

  module _ (owner count : ℕ) (best : Option Standing) (within : count ≤ length text)
      (walked : ∥ Walked prefixes text next end owner count best ∥₁) where
    -- the walk goes on
    pub walk_next : (to : ℕ) → count < length text → next owner count (get_or text count 0) ≡ Some to
        → ∥ Walked prefixes text next end to (count + 1) (ended (end owner count) count best) ∥₁
    walk_next to inside is =
        ∥∥₁_elim tree ∥∥₁_prop (λ tree. ∥∥₁_map walked (λ so_far. record {
          same = same_next prefixes text next end tree owner count to inside so_far.same is;
          follows = follows_next prefixes text next end tree owner count within so_far.same so_far.follows to is;
          short = short_next prefixes text next end tree owner count within so_far.same so_far.follows (end owner count) best refl
              so_far.short;
        }))

    -- the walk is over where none that stands is longer
    walk_over : ((tree : IsTree next end prefixes (length prefixes)) → Walked prefixes text next end owner count best
        → (one : Standing) → Stands prefixes text one → one.length < count + 1)
        → ended (end owner count) count best ≡ meant prefixes text
    walk_over all =
        stable _ _ (λ other. not_there tree (λ tree. not_there walked (λ so_far. other
        (meant_once prefixes text _ _
        (short_all prefixes text (count + 1) _ (all tree so_far)
        (short_next prefixes text next end tree owner count within so_far.same so_far.follows (end owner count) best refl so_far.short))
        (meant_counts prefixes text)))))

    pub walk_ends : length text ≤ count → ended (end owner count) count best ≡ meant prefixes text
    walk_ends ends = walk_over (λ tree so_far one stands. omega (arith, no_longer prefixes text one stands, ends))

    pub walk_stops : next owner count (get_or text count 0) ≡ None → ended (end owner count) count best ≡ meant prefixes text
    walk_stops is =
        walk_over (λ tree so_far. none_longer prefixes text next end tree owner count within so_far.same so_far.follows is)
