-- What a recall matches. The derivation is cut at the definition and at the recall (`split_at`); the group that the definition
-- sets stays as it is up to the recall, since the groups of the pieces between them have greater numbers.
-- The hard one is `recall_is_same_text`, which puts them together.
use Rattle.std.proofs.Common.{◌≡◌, ℕ, ◌+◌, ◌≤◌, suc, Bool, Some, List, [], ◌∷◌, ◌++◌, length, refl, sym, ap, ◌∙◌, subst, arith}
use Rattle.std.specs.FinMap.{empty, get, insert}
use Rattle.std.proofs.lemmas.Option.{same_Some}
use Rattle.ere_tree.proofs.DerivationLemmas.{is_part, all_are_part}
use Rattle.ere_tree.specs.Shape.{greatest_group, shifted}
use Rattle.ere_tree.specs.Captures.{Captures}
use Rattle.ere_tree.specs.Derivation.{Ways, leaf, parts, members, chosen, inside, done, next, DerivesAll, IsSameText, part}
use Rattle.ere_tree.specs.Tree.{Tree, Trees, group, back, then, trees_of}
use Rattle.pattern_instance.specs.Parts.{recalled}
use Rattle.pattern_parse.specs.Item.{define, recall}
use Rattle.pattern_laws.proofs.GroupLemmas.{holds_now}
use Rattle.pattern_laws.proofs.NumberLemmas.{ArePast, all_keep, all_past}
use Rattle.pattern_laws.proofs.RecallLemmas.{parts_at, first_part, group_set}
use Rattle.pattern_laws.specs.Texts.{span_at, RecallIsSameText}

-- a derivation of parts behind others, and where it begins
pub record Cut (s : List ℕ) (xs ys : List Tree) (ws : Ways) (i j : ℕ) (c d : Captures) : Type 0 where
  pub at : ℕ
  pub held : Captures
  pub first : Ways
  pub rest : Ways
  pub front : DerivesAll s (trees_of xs) first i at c held
  pub behind : DerivesAll s (trees_of ys) rest at j held d
  pub spans : (n : ℕ) → span_at ws i (length xs + n) ≡ span_at rest at n

cut : (s : List ℕ) (xs ys : List Tree) (ws : Ways) (i j : ℕ) (c d : Captures)
    → DerivesAll s (trees_of (xs ++ ys)) ws i j c d → i ≤ length s → Cut s xs ys ws i j c d
cut s [] ys ws i j c d h low = record {
  at = i;
  held = c;
  first = done;
  rest = ws;
  front = (refl, low, refl);
  behind = h;
  spans = λ n. ap (span_at ws i) (omega arith);
}
cut s (x ∷ xs) ys done i j c d h low = absurd h
cut s (x ∷ xs) ys (next m w ws) i j c d h low =
    let more = cut s xs ys ws m j h.0 d h.2 (is_part s x w i m c h.0 h.1).1 in
    record {
      at = more.at;
      held = more.held;
      first = next m w more.first;
      rest = more.rest;
      front = (h.0, h.1, more.front);
      behind = more.behind;
      spans = λ n. let one : suc (length xs) + n ≡ suc (length xs + n) = omega arith in
          ap (span_at (next m w ws) i) one ∙ more.spans n;
    }

-- a group in front of other trees, and what it holds behind it
record Grouped (s : List ℕ) (k : ℕ) (ts : Trees) (ws : Ways) (i j : ℕ) (d : Captures) : Type 0 where
  to : ℕ
  held : Captures
  rest : Ways
  behind : DerivesAll s ts rest to j held d
  is : get held k ≡ Some (i, to)
  within : to ≤ length s
  span : span_at ws i 0 ≡ Some (i, to)
  spans : (n : ℕ) → span_at ws i (suc n) ≡ span_at rest to n

grouped : (s : List ℕ) (k : ℕ) (u : Tree) (ts : Trees) (ws : Ways) (i j : ℕ) (c d : Captures)
    → DerivesAll s (then (group k u) ts) ws i j c d → Grouped s k ts ws i j d
grouped s k u ts (next m (inside w) ws) i j c d h =
    let part = is_part s u w i m c h.1.0 h.1.1 in
    record {
      to = m;
      held = h.0;
      rest = ws;
      behind = h.2;
      is = ap (λ x. get x k) h.1.2 ∙ holds_now h.1.0 k (i, m);
      within = part.1;
      span = refl;
      spans = λ n. refl;
    }
grouped s k u ts done i j c d h = absurd h
grouped s k u ts (next m leaf ws) i j c d h = absurd h.1
grouped s k u ts (next m (parts all) ws) i j c d h = absurd h.1
grouped s k u ts (next m (members all) ws) i j c d h = absurd h.1
grouped s k u ts (next m (chosen n w) ws) i j c d h = absurd h.1

-- a reference in front of other trees matches what its group holds
record Referred (s : List ℕ) (k : ℕ) (fold : Bool) (ws : Ways) (i : ℕ) (c : Captures) : Type 0 where
  to : ℕ
  held : ℕ × ℕ
  is : get c k ≡ Some held
  span : span_at ws i 0 ≡ Some (i, to)
  same : IsSameText fold (part s i to) (part s held.0 held.1)

referred : (s : List ℕ) (k : ℕ) (fold : Bool) (ts : Trees) (ws : Ways) (i j : ℕ) (c d : Captures)
    → DerivesAll s (then (back k fold) ts) ws i j c d → Referred s k fold ws i c
referred s k fold ts (next m leaf ws) i j c d h =
    record { to = m; held = h.1.0; is = h.1.1; span = refl; same = h.1.3 }
referred s k fold ts done i j c d h = absurd h
referred s k fold ts (next m (parts all) ws) i j c d h = absurd h.1
referred s k fold ts (next m (members all) ws) i j c d h = absurd h.1
referred s k fold ts (next m (chosen n w) ws) i j c d h = absurd h.1
referred s k fold ts (next m (inside w) ws) i j c d h = absurd h.1

-- the same place, counted otherwise
last_at : (ws : Ways) (i n : ℕ) → span_at ws i n ≡ span_at ws i (n + 0)
last_at ws i n = ap (span_at ws i) (omega arith)

next_at : (ws : Ways) (i n : ℕ) → span_at ws i (1 + n) ≡ span_at ws i (suc n)
next_at ws i n = ap (span_at ws i) (omega arith)

-- a reference behind its group, with trees between them whose groups have greater numbers
same_text : (s : List ℕ) (xs ys ts : List Tree) (k : ℕ) (u : Tree) (fold : Bool) (ws : Ways) (i j : ℕ) (c d : Captures)
    → DerivesAll s (trees_of (xs ++ group k u ∷ (ys ++ back k fold ∷ ts))) ws i j c d → i ≤ length s
    → ArePast k (trees_of ys) → (p q : ℕ × ℕ) → span_at ws i (length xs) ≡ Some p
    → span_at ws i (length xs + (1 + length ys)) ≡ Some q → IsSameText fold (part s q.0 q.1) (part s p.0 p.1)
same_text s xs ys ts k u fold ws i j c d h low past p q at behind =
    let one = cut s xs (group k u ∷ (ys ++ back k fold ∷ ts)) ws i j c d h low in
    let set = grouped s k u (trees_of (ys ++ back k fold ∷ ts)) one.rest one.at j one.held d one.behind in
    let two = cut s ys (back k fold ∷ ts) set.rest set.to j set.held d set.behind set.within in
    let same = referred s k fold (trees_of ts) two.rest two.at j two.held d two.behind in
    let kept : get two.held k ≡ Some (one.at, set.to) =
    all_keep s (trees_of ys) two.first set.to two.at set.held two.held k past two.front ∙ set.is in
    let held : same.held ≡ p = same_Some same.held p
    (sym same.is ∙ kept ∙ sym set.span ∙ sym (one.spans 0) ∙ sym (last_at ws i (length xs)) ∙ at) in
    let there : (two.at, same.to) ≡ q = same_Some (two.at, same.to) q
    (sym same.span ∙ sym (two.spans 0) ∙ sym (last_at set.rest set.to (length ys)) ∙ sym (set.spans (length ys))
    ∙ sym (next_at one.rest one.at (length ys)) ∙ sym (one.spans (1 + length ys)) ∙ behind) in
    subst (λ (r : ℕ × ℕ). IsSameText fold (part s r.0 r.1) (part s p.0 p.1)) there
    (subst (λ (r : ℕ × ℕ). IsSameText fold (part s two.at same.to) (part s r.0 r.1)) held same.same)

pub recall_is_same_text : RecallIsSameText
recall_is_same_text known front name t between rest all are none numbered s ws i j c d h p q at behind =
    let first = parts_at known 0 empty front (define name t ∷ (between ++ recall name ∷ rest)) all are in
    let k : ℕ = first.count + 1 in
    let head = first_part known first.count first.there (define name t) (between ++ recall name ∷ rest) first.parts _ refl
    first.are in
    let second = parts_at known (first.count + (1 + greatest_group t)) (insert first.there name k) between
    (recall name ∷ rest) head.0 head.1 in
    let third = first_part known second.count second.there (recall name) rest second.parts _ refl second.are in
    let nearest : get second.there name ≡ Some k = second.stays name none ∙ group_set first.there name k in
    let trees : second.parts.trees ≡ back k known.fold ∷ third.0.trees =
    third.2 ∙ ap (λ g. recalled known.fold g (known.text name) ∷ third.0.trees) nearest in
    let whole : all.trees ≡ first.before ++ group k (shifted k t) ∷ (second.before ++ back k known.fold ∷ third.0.trees) =
    first.trees ∙ ap (λ ts. first.before ++ ts) (head.2 ∙ ap (λ ts. group k (shifted k t) ∷ ts)
    (second.trees ∙ ap (λ ts. second.before ++ ts) trees)) in
    same_text s first.before second.before third.0.trees k (shifted k t) known.fold ws i j c d
    (subst (λ ts. DerivesAll s (trees_of ts) ws i j c d) whole h) (begins s (trees_of all.trees) ws i j c d h)
    (all_past k second.before (second.past k (past_one first.count (greatest_group t)) numbered)) p q
    (ap (span_at ws i) first.long ∙ at)
    (ap (λ n. span_at ws i (n + (1 + length second.before))) first.long
    ∙ ap (λ n. span_at ws i (length front + (1 + n))) second.long ∙ behind)
  where
    begins : (s : List ℕ) (ts : Trees) (ws : Ways) (i j : ℕ) (c d : Captures) → DerivesAll s ts ws i j c d → i ≤ length s
    begins s ts ws i j c d h = omega (arith, all_are_part s ts ws i j c d h)

    past_one : (n m : ℕ) → n + 1 ≤ n + (1 + m)
    past_one n m = omega arith
