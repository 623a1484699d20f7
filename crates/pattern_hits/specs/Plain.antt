-- Expressions that are plain text.
use Rattle.std.specs.Prelude.{◌≡◌, ℕ, ◌++◌, List, [], ◌∷◌, map}
use Rattle.ere_tree.specs.Tree.{Tree, plain, cat, trees_of}

-- texts one behind the other
abbrev pub joined : List (List ℕ) → List ℕ
joined [] = []
joined (one ∷ texts) = one ++ joined texts

-- an expression is texts one behind the other, which are these bytes
pub record IsText (t : Tree) (bytes : List ℕ) : Type 0 where
  pub texts : List (List ℕ)
  pub is : t ≡ cat (trees_of (map plain texts))
  pub joins : joined texts ≡ bytes
