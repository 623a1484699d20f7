-- How an expression stands in a table.
-- Own rule: each part of the expression is entered at one node and left at another.
use Rattle.std.specs.Prelude.{◌≡◌, ℕ, Option, Some, None, List, [], ◌∷◌, zero, suc}
use Rattle.ere_tree.specs.Tree.{Tree, Trees, empty, plain, set, line_start, line_end, cat, alt, repeat, group, back, none, then}
use Rattle.ere_table.specs.Node.{Node, byte, fork, at_start, at_end, fail}

-- these bytes one behind the other
abbrev pub PlainStands : (ℕ → Node) → List ℕ → ℕ → ℕ → Type 0
PlainStands T [] e n = e ≡ n
PlainStands T (b ∷ bs) e n = (m : ℕ) × (T e ≡ byte (b ∷ []) m) × PlainStands T bs m n

-- the loop of a repeat with no most, and its least members in front of it
abbrev pub LoopStands : (ℕ → Node) → (ℕ → ℕ → Type 0) → ℕ → ℕ → ℕ → Type 0
LoopStands T R zero e n = (a : ℕ) × (T e ≡ fork a n) × R a e
LoopStands T R (suc least) e n = (m : ℕ) × R e m × LoopStands T R least m n

-- the copies of a repeat with a most
abbrev pub CopiesStand : (ℕ → Node) → (ℕ → ℕ → Type 0) → ℕ → ℕ → ℕ → ℕ → Type 0
CopiesStand T R zero zero e n = e ≡ n
CopiesStand T R zero (suc most) e n = (a : ℕ) × (m : ℕ) × (T e ≡ fork a n) × R a m × CopiesStand T R zero most m n
CopiesStand T R (suc least) zero e n = T e ≡ fail
CopiesStand T R (suc least) (suc most) e n = (m : ℕ) × R e m × CopiesStand T R least most m n

abbrev pub RepeatStands : (ℕ → Node) → (ℕ → ℕ → Type 0) → ℕ → Option ℕ → ℕ → ℕ → Type 0
RepeatStands T R least None e n = LoopStands T R least e n
RepeatStands T R least (Some most) e n = CopiesStand T R least most e n

-- in the table the tree is entered at e, and left at n
abbrev mutual
  pub Stands : (ℕ → Node) → Tree → ℕ → ℕ → Type 0
  Stands T empty e n = e ≡ n
  Stands T (plain bytes) e n = PlainStands T bytes e n
  Stands T (set bytes) e n = T e ≡ byte bytes n
  Stands T line_start e n = T e ≡ at_start n
  Stands T line_end e n = T e ≡ at_end n
  Stands T (cat all) e n = AllStand T all e n
  Stands T (alt all) e n = OneStands T all e n
  Stands T (repeat inner least most) e n = RepeatStands T (Stands T inner) least most e n
  Stands T (group number inner) e n = Stands T inner e n
  Stands T (back number fold) e n = ⊥

  pub AllStand : (ℕ → Node) → Trees → ℕ → ℕ → Type 0
  AllStand T none e n = e ≡ n
  AllStand T (then t ts) e n = (m : ℕ) × Stands T t e m × AllStand T ts m n

  pub OneStands : (ℕ → Node) → Trees → ℕ → ℕ → Type 0
  OneStands T none e n = T e ≡ fail
  OneStands T (then t ts) e n = (a : ℕ) × (b : ℕ) × (T e ≡ fork a b) × Stands T t a n × OneStands T ts b n
