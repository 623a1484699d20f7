-- Names of features, piece by piece.
-- After LLVM Testing Infrastructure Guide: an identifier has letters, digits and `-+=._`, and `{{ }}` parts with regular
-- expressions. Own rules: a `{{` ends at the first `}}` behind it, an expression without references stands between them,
-- and one that is refused makes the whole a bad name.
use Rattle.std.specs.Prelude.{ℕ, ◌+◌, ◌-◌, zero, suc, Bool, true, false, ◌==◌, ◌||◌, List, [], ◌∷◌, length, take, drop, map, Option, Some, None, Result, Ok, Err, codes, if◌then◌else◌}
use Rattle.std.specs.List.{prefix_len}
use Rattle.std.specs.Option.{option_map}
use Rattle.std.specs.Str.{bytes_eq}
use Rattle.tt_base.specs.Occurrence.{begins_with, first_in}
use Rattle.ere_tree.specs.Class.{is_alnum}
use Rattle.ere_tree.specs.Tree.{Tree, plain, cat, trees_of}
use Rattle.ere_tree.specs.Shape.{has_refs}
use Rattle.ere_tree.specs.Grammar.{reading}
use Rattle.ere_tree.specs.declared.fault.EreFault.{EreFault}
use Rattle.bool_exprs.specs.Expr.{Expr, constant, name, match}

-- whether a byte may stand in a name
abbrev pub is_in_name : ℕ → Bool
is_in_name b = is_alnum b || b == 45 || b == 43 || b == 61 || b == 46 || b == 95

-- bytes that stand for themselves, or an expression in `{{ }}`
pub data Piece : Type 0 where
  bytes : List ℕ → Piece
  regex : Tree → Piece

-- what begins at the front of a text: no piece, one that is refused, or one of so many bytes
pub data Front : Type 0 where
  none : Front
  refused : Front
  piece : Piece → ℕ → Front

-- the tree of an expression without references
abbrev pub without_refs : Result Tree EreFault → Option Tree
without_refs (Ok tree) = if has_refs tree then None else Some tree
without_refs (Err fault) = None

abbrev pub regex_of : List ℕ → Option Tree
regex_of text = without_refs (reading false text)

-- a piece whose expression ends at an offset, behind which `}}` stands
abbrev pub regex_ended : ℕ → Option Tree → Front
regex_ended end None = refused
regex_ended end (Some tree) = piece (regex tree) (end + 2)

-- a piece that begins with `{{`, whose `}}` stands at an offset
abbrev pub regex_at : List ℕ → Option ℕ → Front
regex_at text None = refused
regex_at text (Some end) = regex_ended end (regex_of (take (end - 2) (drop 2 text)))

-- the bytes of a name at the front of a text
abbrev pub bytes_at : List ℕ → ℕ → Front
bytes_at text zero = none
bytes_at text (suc count) = piece (bytes (take (suc count) text)) (suc count)

-- where the first `}}` behind a `{{` stands, and where the bytes of a name end
abbrev pub regex_end : List ℕ → Option ℕ
regex_end text = first_in text (codes "}}") 2 (length text)

abbrev pub name_end : List ℕ → ℕ
name_end text = prefix_len is_in_name text

-- what begins at the front of a text
unfoldable pub front : List ℕ → Front
front text =
    if begins_with text (codes "{{") then regex_at text (regex_end text)
    else bytes_at text (name_end text)

-- the pieces of a name and how many bytes it has, with a piece before them
abbrev pub behind_piece : Piece → ℕ → Option (List Piece × ℕ) → Option (List Piece × ℕ)
behind_piece one count = option_map (λ found. (one ∷ found.0, count + found.1))

-- goes on behind what begins a text
abbrev pub and_pieces : Front → (ℕ → Option (List Piece × ℕ)) → Option (List Piece × ℕ)
and_pieces none go = Some ([], 0)
and_pieces refused go = None
and_pieces (piece one count) go = behind_piece one count (go count)

-- the pieces at the front of a text, as many as stand one behind the other, and how many bytes they have, where so many
-- bytes belong to the piece before; none where one is refused
unfoldable pub pieces_from : ℕ → List ℕ → Option (List Piece × ℕ)
pieces_from skip [] = Some ([], 0)
pieces_from (suc skip) (b ∷ rest) = pieces_from skip rest
pieces_from zero (b ∷ rest) = and_pieces (front (b ∷ rest)) (λ count. pieces_from (count - 1) rest)

-- a name of plain bytes
abbrev pub word_of : List ℕ → Expr
word_of word =
    if bytes_eq word (codes "true") then constant true
    else if bytes_eq word (codes "false") then constant false
    else name word

abbrev pub tree_of : Piece → Tree
tree_of (bytes word) = plain word
tree_of (regex tree) = tree

-- the pieces of a name as one expression
abbrev pub match_of : List Piece → Expr
match_of pieces = match (cat (trees_of (map tree_of pieces)))

-- what the pieces of a name say
abbrev pub operand_of : List Piece → Expr
operand_of (bytes word ∷ []) = word_of word
operand_of pieces = match_of pieces
