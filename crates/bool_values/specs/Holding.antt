-- Whether an expression over features holds, as a value.
-- The law below ties it to the meaning that `bool_exprs` has. Own rule: a tree spans a text where one of its derivations
-- from the start ends at the end.
use Rattle.std.specs.Prelude.{ℕ, ◌≡◌, ◌==◌, ◌&&◌, ◌||◌, not, Bool, false, List, length, IsTrue}
use Rattle.std.specs.FinMap.{empty}
use Rattle.std.specs.List.{list_any}
use Rattle.std.specs.Str.{bytes_eq}
use Rattle.ere_slow.specs.Listing.{all_ways}
use Rattle.ere_tree.specs.Tree.{Tree}
use Rattle.bool_exprs.specs.Expr.{Expr, constant, name, match, negation, both, either, Holds, refers}

-- whether a tree spans a whole text
unfoldable pub matches_in : Tree → List ℕ → Bool
matches_in tree text = list_any (λ found. found.to == length text) (all_ways text tree 0 empty)

-- Whether an expression holds over these features.
unfoldable pub holds_in : List (List ℕ) → Expr → Bool
holds_in features (constant value) = value
holds_in features (name bytes) = list_any (λ feature. bytes_eq feature bytes) features
holds_in features (match tree) = list_any (matches_in tree) features
holds_in features (negation inner) = not (holds_in features inner)
holds_in features (both left right) = holds_in features left && holds_in features right
holds_in features (either left right) = holds_in features left || holds_in features right

-- Law: an expression without references holds exactly where the value says so.
pub record HoldingIsOne : Type 0 where
  pub says : (features : List (List ℕ)) (expr : Expr) → refers expr ≡ false → IsTrue (holds_in features expr)
      → Holds features expr
  pub said : (features : List (List ℕ)) (expr : Expr) → refers expr ≡ false → Holds features expr
      → IsTrue (holds_in features expr)
