-- The weight of a tree in a text: more than that of what is inside, with what the members of a repeat add.
-- It bounds the depth of the recursion from above, so it is the measure of it.
-- The hard one is `weight_halves`: of a list that is cut in two each half is lighter.
use Rattle.std.proofs.Common.{◌≡◌, ℕ, zero, suc, ◌+◌, ◌*◌, ◌<◌, ◌≤◌, Option, Some, None, List, [], ◌∷◌, ◌++◌, length, map, get_or, sym, ap, subst, arith}
use Rattle.ere_tree.specs.Tree.{Tree, Trees, empty, plain, set, line_start, line_end, cat, alt, repeat, group, back, none, then, trees_of}
use Rattle.ere_tree.specs.View.{view}
use Rattle.ere_tree.specs.declared.ere.Ere.{Ere}

-- what the members of a repeat add: their number, and for any number of them the blocks that they lead over
abbrev pub members_weight : ℕ → ℕ → Option ℕ → ℕ
members_weight long least None = least + 2 * long + 260
members_weight long least (Some most) = most + 2

abbrev mutual
  pub weight : ℕ → Tree → ℕ
  weight long empty = 1
  weight long (plain bytes) = 1
  weight long (set bytes) = 1
  weight long line_start = 1
  weight long line_end = 1
  weight long (cat ts) = weight_of long ts + 1
  weight long (alt ts) = weight_of long ts + 1
  weight long (repeat t least most) = weight long t + members_weight long least most
  weight long (group number t) = weight long t + 1
  weight long (back number fold) = 1

  pub weight_of : ℕ → Trees → ℕ
  weight_of long none = 0
  weight_of long (then t ts) = weight long t + weight_of long ts

pub weight_some : (long : ℕ) (t : Tree) → 1 ≤ weight long t
weight_some long empty = omega arith
weight_some long (plain bytes) = omega arith
weight_some long (set bytes) = omega arith
weight_some long line_start = omega arith
weight_some long line_end = omega arith
weight_some long (cat ts) = omega arith
weight_some long (alt ts) = omega arith
weight_some long (repeat t least most) = omega (arith, weight_some long t)
weight_some long (group number t) = omega arith
weight_some long (back number fold) = omega arith

weight_append : (long : ℕ) (ts us : List Tree)
    → weight_of long (trees_of (ts ++ us)) ≡ weight_of long (trees_of ts) + weight_of long (trees_of us)
weight_append long [] us = omega arith
weight_append long (t ∷ ts) us = omega (arith, weight_append long ts us)

weight_list : (long : ℕ) (ts : List Tree) → length ts ≤ weight_of long (trees_of ts)
weight_list long [] = omega arith
weight_list long (t ∷ ts) = omega (arith, weight_some long t, weight_list long ts)

-- of lists that aren't empty each is lighter than both
pub weight_halves : (long : ℕ) (ts us all : List Tree) → ts ++ us ≡ all → 1 ≤ length ts → 1 ≤ length us
    → (weight_of long (trees_of ts) < weight_of long (trees_of all))
    × (weight_of long (trees_of us) < weight_of long (trees_of all))
weight_halves long ts us all same one other =
    let total = ap (λ (xs : List Tree). weight_of long (trees_of xs)) same in
    let sum = weight_append long ts us in (
      omega (arith, total, sum, weight_list long us, other),
      omega (arith, total, sum, weight_list long ts, one),
    )

-- one of a list is no heavier than all
pub weight_one : (long : ℕ) (items : List Ere) (i : ℕ) (one : Ere) → i < length items → one ≡ get_or items i one
    → weight long (view one) ≤ weight_of long (trees_of (map view items))
weight_one long [] i one low is = absurd (omega (arith, low))
weight_one long (e ∷ es) zero one low is =
    subst (λ x. weight long (view x) ≤ weight_of long (trees_of (map view (e ∷ es)))) (sym is) (omega arith)
weight_one long (e ∷ es) (suc i) one low is =
    omega (arith, weight_one long es i one (omega (arith, low)) is)
