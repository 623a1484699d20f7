-- The productions of a list of expressions over features, apart from any way of reading it. Over tokens:
--   list = item { "," item }               item = nothing | "*" | sum         sum = product { "||" product }
--   product = factor { "&&" factor }       factor = operand | "!" factor | "(" sum ")"
-- After LLVM Testing Infrastructure Guide, 'Constraining test execution'. Own rule: an item has at most 250 operators and
-- opening parentheses.
use Rattle.std.specs.Prelude.{◌≡◌, ℕ, ◌+◌, ◌≤◌, Bool, true, List, [], ◌∷◌, ◌++◌, Option, Some, None}
use Rattle.std.specs.Option.{option_map}
use Rattle.bool_exprs.specs.Expr.{Expr, constant, negation}
use Rattle.bool_exprs.specs.Expr as expr
use Rattle.bool_exprs.specs.Token.{Token, operand, bang, both, either, open_paren, close_paren, comma, star, Tokens, ends, stops, next, tokens_from}
use Rattle.bool_exprs.specs.Place.{exprs_in}
use Rattle.bool_exprs.specs.declared.reader.TheConstants.{MAX_WEIGHT}

mutual
  pub data Sum : Type 0 where
    one : Product → Sum
    more : Sum → Product → Sum

  pub data Product : Type 0 where
    factor : Factor → Product
    times : Product → Factor → Product

  pub data Factor : Type 0 where
    simple : Expr → Factor
    denied : Factor → Factor
    parens : Sum → Factor

pub data Item : Type 0 where
  nothing : Item
  any : Item
  some : Sum → Item

abbrev mutual
  -- the tokens, and those behind them
  pub sum_tokens : Sum → List Token → List Token
  sum_tokens (one p) rest = product_tokens p rest
  sum_tokens (more s p) rest = sum_tokens s (either ∷ product_tokens p rest)

  pub product_tokens : Product → List Token → List Token
  product_tokens (factor x) rest = factor_tokens x rest
  product_tokens (times p x) rest = product_tokens p (both ∷ factor_tokens x rest)

  pub factor_tokens : Factor → List Token → List Token
  factor_tokens (simple e) rest = operand e ∷ rest
  factor_tokens (denied x) rest = bang ∷ factor_tokens x rest
  factor_tokens (parens s) rest = open_paren ∷ sum_tokens s (close_paren ∷ rest)

abbrev mutual
  -- what they say: operators of one level count from the left
  pub sum_expr : Sum → Expr
  sum_expr (one p) = product_expr p
  sum_expr (more s p) = expr.either (sum_expr s) (product_expr p)

  pub product_expr : Product → Expr
  product_expr (factor x) = factor_expr x
  product_expr (times p x) = expr.both (product_expr p) (factor_expr x)

  pub factor_expr : Factor → Expr
  factor_expr (simple e) = e
  factor_expr (denied x) = negation (factor_expr x)
  factor_expr (parens s) = sum_expr s

abbrev mutual
  -- how many operators and opening parentheses they have
  pub sum_weight : Sum → ℕ
  sum_weight (one p) = product_weight p
  sum_weight (more s p) = sum_weight s + (1 + product_weight p)

  pub product_weight : Product → ℕ
  product_weight (factor x) = factor_weight x
  product_weight (times p x) = product_weight p + (1 + factor_weight x)

  pub factor_weight : Factor → ℕ
  factor_weight (simple e) = 0
  factor_weight (denied x) = 1 + factor_weight x
  factor_weight (parens s) = 1 + sum_weight s

-- the same of an item
abbrev pub item_tokens : Item → List Token → List Token
item_tokens nothing rest = rest
item_tokens any rest = star ∷ rest
item_tokens (some s) rest = sum_tokens s rest

abbrev pub item_exprs : Item → List Expr
item_exprs nothing = []
item_exprs any = constant true ∷ []
item_exprs (some s) = sum_expr s ∷ []

abbrev pub item_weight : Item → ℕ
item_weight nothing = 0
item_weight any = 0
item_weight (some s) = sum_weight s

-- items that commas part
abbrev pub list_tokens : Item → List Item → List Token
list_tokens i [] = item_tokens i []
list_tokens i (j ∷ js) = item_tokens i (comma ∷ list_tokens j js)

abbrev pub list_exprs : Item → List Item → List Expr
list_exprs i [] = item_exprs i
list_exprs i (j ∷ js) = item_exprs i ++ list_exprs j js

-- no item has more than it may
abbrev pub AreWithin : List Item → Type 0
AreWithin [] = Unit {0}
AreWithin (j ∷ js) = (item_weight j ≤ MAX_WEIGHT) × AreWithin js

-- the tokens of a text that is read to its end
abbrev pub all_tokens : Tokens → Option (List Token)
all_tokens ends = Some []
all_tokens stops = None
all_tokens (next t rest) = option_map (λ ts. t ∷ ts) (all_tokens rest)

-- the text is a list of items, each within the limit, and says this
abbrev pub IsList : Bool → List ℕ → List Expr → Type 0
IsList xfail text es = (i : Item) × (js : List Item) × (all_tokens (tokens_from xfail 0 text) ≡ Some (list_tokens i js))
    × AreWithin (i ∷ js) × (es ≡ list_exprs i js)

-- Law: what is read of a text is what it says as a list, and each list is read.
pub record ReadingIsGrammar : Type 0 where
  pub sound : (xfail : Bool) (text : List ℕ) (es : List Expr) → exprs_in xfail text ≡ Some es → IsList xfail text es
  pub complete : (xfail : Bool) (text : List ℕ) (es : List Expr) → IsList xfail text es → exprs_in xfail text ≡ Some es
