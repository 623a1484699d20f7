-- What a recall means. The parts of pieces behind others are theirs, where the groups of the others are known (`parts_at`);
-- a piece that doesn't define a name leaves its group (`groups_stay`).
-- The hard one is `parts_at`.
use Rattle.std.proofs.Common.{◌≡◌, ℕ, ◌+◌, suc, Bool, true, false, cond, Some, None, Result, Ok, Err, is_ok, true≢false, List, [], ◌∷◌, ◌++◌, length, refl, sym, ap, ◌∙◌, subst, slice_get, arith, zero}
use Rattle.std.specs.Cmp.{IsEquivalence}
use Rattle.std.specs.FinMap.{empty, get, insert, get-insert, get-empty}
use Rattle.std.specs.Ordering.{eq_by_cmp, is_eq}
use Rattle.std.specs.declared.cmp.Ordering.{Ordering}
use Rattle.std.specs.declared.cmp.Ordering.TheVariants.{Less, Equal, Greater}
use Rattle.std.proofs.lemmas.Cmp.{eq_by_cmp_equiv, nat_list_cmp_total}
use Rattle.std.proofs.lemmas.Map.Lookups.{exact_bytes}
use Rattle.num_base.specs.Names.{name_cmp}
use Rattle.num_base.specs.declared.evaluation.EvalFault.{EvalFault}
use Rattle.ere_tree.specs.Shape.{shifted}
use Rattle.ere_tree.specs.Tree.{Tree, group}
use Rattle.pattern_instance.specs.Known.{Known}
use Rattle.pattern_instance.specs.Parts.{Part, Parts, Groups, recalled, part_of, parts_from, groups_behind, behind_part, map_parts, with_part}
use Rattle.pattern_parse.specs.Item.{Item, plain, regex, define, recall, number}
use Rattle.std.specs.List.{All}
use Rattle.std.specs.Prelude.{IfOk, ◌≤◌}
use Rattle.std.proofs.lemmas.List.Elements.{All-head, All-tail}
use Rattle.pattern_parse.specs.Search.{HasNumbers}
use Rattle.pattern_laws.proofs.NumberLemmas.{IsPast, AllPast, part_past}
use Rattle.pattern_laws.specs.Recalls.{Defines, NoneDefines, RecallIsNearest, RecallIsStored}

is_equal : (r : Ordering) → is_eq r ≡ true → r ≡ Equal
is_equal Less e = absurd (true≢false (sym e))
is_equal Equal e = refl
is_equal Greater e = absurd (true≢false (sym e))

-- a part, and those behind it
behind_ok : (r : Result Part EvalFault) (go : ℕ → Result Parts EvalFault) (all : Parts) → behind_part r go ≡ Ok all
    → (part : Part) × (rest : Parts) × (r ≡ Ok part) × (go part.groups ≡ Ok rest) × (with_part part rest ≡ all)
behind_ok (Err fault) go all h = absurd (true≢false (sym (ap is_ok h)))
behind_ok (Ok part) go all h = each (go part.groups) refl h
  where
    each : (r : Result Parts EvalFault) → go part.groups ≡ r → map_parts (with_part part) r ≡ Ok all
        → (one : Part) × (rest : Parts) × ◌≡◌ {A = Result Part EvalFault} (Ok part) (Ok one) × (go one.groups ≡ Ok rest) × (with_part one rest ≡ all)
    each (Err fault) is h = absurd (true≢false (sym (ap is_ok h)))
    each (Ok rest) is h = let same : with_part part rest ≡ all = cc in (part, rest, refl, is, same)

-- the group of a name behind a piece that doesn't define it
group_stays : (n : ℕ) (groups : Groups) (one : Item) (name : List ℕ) → (Defines name one → ⊥)
    → get (groups_behind n groups one) name ≡ get groups name
group_stays n groups (plain bytes) name other = refl
group_stays n groups (regex t) name other = refl
group_stays n groups (define one t) name other =
    each (eq_by_cmp name_cmp name one) refl (get-insert nat_list_cmp_total groups one (n + 1) name)
  where
    each : (v : Bool) → eq_by_cmp name_cmp name one ≡ v
        → get (insert groups one (n + 1)) name ≡ cond v (Some (n + 1)) (get groups name)
        → get (insert groups one (n + 1)) name ≡ get groups name
    each false same is = is
    each true same is = absurd (other (sym (exact_bytes name one (is_equal _ same))))
group_stays n groups (recall one) name other = refl
group_stays n groups (number num format) name other = refl

pub group_set : (groups : Groups) (name : List ℕ) (k : ℕ) → get (insert groups name k) name ≡ Some k
group_set groups name k =
    get-insert nat_list_cmp_total groups name k name
    ∙ ap (λ v. cond v (Some k) (get groups name)) (IsEquivalence.refl (eq_by_cmp_equiv nat_list_cmp_total) name)

-- the parts of pieces behind others, where the others stand behind n groups
pub record Behind (known : Known) (n : ℕ) (groups : Groups) (front rest : List Item) (all : Parts) : Type 0 where
  pub count : ℕ
  pub there : Groups
  pub parts : Parts
  pub are : parts_from known count there rest ≡ Ok parts
  pub before : List Tree
  pub trees : all.trees ≡ before ++ parts.trees
  pub long : length before ≡ length front
  pub stays : (name : List ℕ) → NoneDefines name front → get there name ≡ get groups name
  pub past : (k : ℕ) → k ≤ n → All HasNumbers front → AllPast k before

pub parts_at : (known : Known) (n : ℕ) (groups : Groups) (front rest : List Item) (all : Parts)
    → parts_from known n groups (front ++ rest) ≡ Ok all → Behind known n groups front rest all
parts_at known n groups [] rest all h = record {
  count = n;
  there = groups;
  parts = all;
  are = h;
  before = [];
  trees = refl;
  long = refl;
  stays = λ name none. refl;
  past = λ k low are. tt;
}
parts_at known n groups (one ∷ front) rest all h =
    let split = behind_ok (part_of known n groups one) _ all h in
    let later = parts_at known (n + split.0.groups) (groups_behind n groups one) front rest split.1 split.3 in
    record {
      count = later.count;
      there = later.there;
      parts = later.parts;
      are = later.are;
      before = split.0.tree ∷ later.before;
      trees = ap (λ (p : Parts). p.trees) (sym split.4) ∙ ap (λ ts. split.0.tree ∷ ts) later.trees;
      long = ap suc later.long;
      stays = λ name none. later.stays name none.1 ∙ group_stays n groups one name none.0;
      past = λ k low are. (
        subst (λ r. IfOk r (λ part. IsPast k part.tree)) split.2
            (part_past known n k groups one low (All-head HasNumbers one front are)),
        later.past k (omega arith) (All-tail HasNumbers one front are),
      );
    }

-- the tree of a piece behind others
slice_behind : (xs ys : List Tree) (n k : ℕ) → length xs ≡ n → slice_get (xs ++ ys) (n + k) ≡ slice_get ys k
slice_behind [] ys n k long = let none : n + k ≡ k = omega arith in rw none refl
slice_behind (x ∷ xs) ys zero k long = absurd (omega arith)
slice_behind (x ∷ xs) ys (suc n) k long =
    let next : suc n + k ≡ suc (n + k) = omega arith in rw next (slice_behind xs ys n k (omega arith))

trees_behind : {known : Known} {n : ℕ} {groups : Groups} {front rest : List Item} {all : Parts}
    → (there : Behind known n groups front rest all) → (k : ℕ)
    → slice_get all.trees (length front + k) ≡ slice_get there.parts.trees k
trees_behind {front} there k =
    ap (λ ts. slice_get ts (length front + k)) there.trees
    ∙ slice_behind there.before there.parts.trees (length front) k there.long

-- the part of a first piece, and the parts behind it
pub first_part : (known : Known) (n : ℕ) (groups : Groups) (one : Item) (rest : List Item) (all : Parts) (part : Part)
    → part_of known n groups one ≡ Ok part → parts_from known n groups (one ∷ rest) ≡ Ok all
    → (more : Parts) × (parts_from known (n + part.groups) (groups_behind n groups one) rest ≡ Ok more)
    × (all.trees ≡ part.tree ∷ more.trees)
first_part known n groups one rest all part is h =
    let split = behind_ok (part_of known n groups one) _ all h in
    let same : split.0 ≡ part = cc in (
      split.1,
      subst (λ (p : Part). parts_from known (n + p.groups) (groups_behind n groups one) rest ≡ Ok split.1) same split.3,
      ap (λ (p : Parts). p.trees) (sym split.4) ∙ ap (λ (p : Part). p.tree ∷ split.1.trees) same,
    )

-- the tree of a recall
recall_tree : (known : Known) (n : ℕ) (groups : Groups) (name : List ℕ) (rest : List Item) (all : Parts)
    → parts_from known n groups (recall name ∷ rest) ≡ Ok all
    → slice_get all.trees 0 ≡ Some (recalled known.fold (get groups name) (known.text name))
recall_tree known n groups name rest all h =
    ap (λ ts. slice_get ts 0) (first_part known n groups (recall name) rest all _ refl h).2

pub recall_is_nearest : RecallIsNearest
recall_is_nearest known front name t between rest all are none =
    let first = parts_at known 0 empty front (define name t ∷ (between ++ recall name ∷ rest)) all are in
    let k : ℕ = first.count + 1 in
    let groups : Groups = insert first.there name k in
    let head = first_part known first.count first.there (define name t) (between ++ recall name ∷ rest) first.parts _ refl
    first.are in
    let second = parts_at known _ groups between (recall name ∷ rest) head.0 head.1 in
    let nearest : get second.there name ≡ Some k = second.stays name none ∙ group_set first.there name k in
    let behind : 1 + length between ≡ suc (length between + 0) = omega arith in (
      k,
      ap (slice_get all.trees) (omega arith) ∙ trees_behind first 0 ∙ ap (λ ts. slice_get ts 0) head.2,
      trees_behind first (1 + length between) ∙ ap (λ ts. slice_get ts (1 + length between)) head.2
          ∙ ap (slice_get (group k (shifted k t) ∷ head.0.trees)) behind
          ∙ trees_behind second 0 ∙ recall_tree known second.count second.there name rest second.parts second.are
          ∙ ap (λ g. Some (recalled known.fold g (known.text name))) nearest,
    )

pub recall_is_stored : RecallIsStored
recall_is_stored known front name text rest all are none held =
    let first = parts_at known 0 empty front (recall name ∷ rest) all are in
    ap (slice_get all.trees) (omega arith) ∙ trees_behind first 0
    ∙ recall_tree known first.count first.there name rest first.parts first.are
    ∙ ap (λ g. Some (recalled known.fold g (known.text name))) (first.stays name none ∙ get-empty name_cmp name)
    ∙ ap (λ o. Some (recalled known.fold None o)) held
