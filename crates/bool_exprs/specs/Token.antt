-- The tokens of a list of expressions over features.
-- After LLVM Testing Infrastructure Guide, 'Constraining test execution'. Own rule: a `*` is a token of XFAIL lists alone.
use Rattle.std.specs.Prelude.{codes, ℕ, ◌-◌, suc, zero, Bool, ◌&&◌, List, [], ◌∷◌, Option, Some, None, if◌then◌else◌}
use Rattle.ere_tree.specs.Class.{is_blank}
use Rattle.ere_tree.specs.Front.{begins}
use Rattle.tt_base.specs.Occurrence.{begins_with}
use Rattle.bool_exprs.specs.Expr.{Expr}
use Rattle.bool_exprs.specs.Piece.{Piece, pieces_from, operand_of}

pub data Token : Type 0 where
  operand : Expr → Token
  bang : Token  -- `!`
  both : Token  -- `&&`
  either : Token  -- `||`
  open_paren : Token
  close_paren : Token
  comma : Token
  star : Token

-- the token of a name, and its length
abbrev pub name_token : Option (List Piece × ℕ) → Option (Token × ℕ)
name_token None = None
name_token (Some (pieces, zero)) = None
name_token (Some (pieces, suc count)) = Some (operand (operand_of pieces), suc count)

-- the token at the front of a text, and its length, unless a byte there can't be read; in an XFAIL list also a `*`
unfoldable pub token : Bool → List ℕ → Option (Token × ℕ)
token xfail text =
    if begins 33 text then Some (bang, 1)
    else if begins 40 text then Some (open_paren, 1)
    else if begins 41 text then Some (close_paren, 1)
    else if begins 44 text then Some (comma, 1)
    else if begins_with text (codes "&&") then Some (both, 2)
    else if begins_with text (codes "||") then Some (either, 2)
    else if xfail && begins 42 text then Some (star, 1)
    else name_token (pieces_from 0 text)

-- The tokens of a text, up to its end or to a byte that can't be read.
pub data Tokens : Type 0 where
  ends : Tokens
  stops : Tokens
  next : Token → Tokens → Tokens

-- goes on behind the token that begins a text, where there is one
abbrev pub and_next : Option (Token × ℕ) → (Token × ℕ → Tokens) → Tokens
and_next None go = stops
and_next (Some found) go = next found.0 (go found)

-- the tokens of a text, where so many bytes belong to the token before; blanks between tokens belong to none
unfoldable pub tokens_from : Bool → ℕ → List ℕ → Tokens
tokens_from xfail skip [] = ends
tokens_from xfail (suc skip) (b ∷ rest) = tokens_from xfail skip rest
tokens_from xfail zero (b ∷ rest) =
    if is_blank b then tokens_from xfail zero rest
    else and_next (token xfail (b ∷ rest)) (λ found. tokens_from xfail (found.1 - 1) rest)
