-- The productions of an expression over numbers, apart from any way of reading it. Over tokens:
--   expr = operand { ("+" | "-") operand }      operand = value | "(" expr ")" | op "(" expr "," expr ")"
-- After LLVM Command Guide, FileCheck, 'FileCheck Numeric Substitution Blocks'.
use Rattle.std.specs.Prelude.{◌≡◌, ℕ, ◌+◌, ◌≤◌, true, List, [], ◌∷◌, Option, Some, None, Ok}
use Rattle.std.specs.Option.{option_map}
use Rattle.num_base.specs.Term.{Term, binary}
use Rattle.num_base.specs.declared.expr.Op.{Op}
use Rattle.num_exprs.specs.Token.{Token, value, operator, named, open_paren, close_paren, comma, Tokens, ends, stops, next, tokens_from}
use Rattle.num_exprs.specs.Place.{wants, weight, Found, reading_from}
use Rattle.num_exprs.specs.declared.reader.TheConstants.{MAX_WEIGHT}

mutual
  pub data Sum : Type 0 where
    one : Operand → Sum
    more : Sum → Op → Operand → Sum

  pub data Operand : Type 0 where
    simple : Term → Operand
    parens : Sum → Operand
    call : Op → Sum → Sum → Operand

abbrev mutual
  -- the tokens of an expression, and those behind it
  pub tokens : Sum → List Token → List Token
  tokens (one x) rest = operand_tokens x rest
  tokens (more s op x) rest = tokens s (operator op ∷ operand_tokens x rest)

  pub operand_tokens : Operand → List Token → List Token
  operand_tokens (simple t) rest = value t ∷ rest
  operand_tokens (parens s) rest = open_paren ∷ tokens s (close_paren ∷ rest)
  operand_tokens (call op a b) rest =
      named op ∷ open_paren ∷ tokens a (comma ∷ tokens b (close_paren ∷ rest))

abbrev mutual
  -- what it says: operators of one level count from the left
  pub sum_term : Sum → Term
  sum_term (one x) = operand_term x
  sum_term (more s op x) = binary op (sum_term s) (operand_term x)

  pub operand_term : Operand → Term
  operand_term (simple t) = t
  operand_term (parens s) = sum_term s
  operand_term (call op a b) = binary op (sum_term a) (sum_term b)

-- how much tokens count against the limit
abbrev pub weights : List Token → ℕ
weights [] = 0
weights (t ∷ ts) = weight t + weights ts

-- the tokens of a text that is read to its end
abbrev pub all_tokens : Tokens → Option (List Token)
all_tokens (ends at) = Some []
all_tokens (stops at) = None
all_tokens (next at t rest) = option_map (λ ts. t ∷ ts) (all_tokens rest)

-- the text is an expression within the limit, and says this
abbrev pub IsExpr : List ℕ → Term → Type 0
IsExpr text t = (s : Sum) × (all_tokens (tokens_from true 0 0 text) ≡ Some (tokens s []))
    × (weights (tokens s []) ≤ MAX_WEIGHT) × (t ≡ sum_term s)

-- what is read of a text that begins at an offset
abbrev pub expr_at : ℕ → List ℕ → Found
expr_at at text = reading_from MAX_WEIGHT (wants []) (tokens_from true at 0 text)

-- Law: what is read of a text is what it says as an expression, and each expression is read.
pub record ReadingIsGrammar : Type 0 where
  pub sound : (at : ℕ) (text : List ℕ) (t : Term) → Found.outcome (expr_at at text) ≡ Ok t → IsExpr text t
  pub complete : (at : ℕ) (text : List ℕ) (t : Term) → IsExpr text t → Found.outcome (expr_at at text) ≡ Ok t
