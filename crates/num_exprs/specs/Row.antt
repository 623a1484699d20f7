-- Bytes that may stand in a row.
use Rattle.std.specs.Prelude.{ℕ, Bool}
use Rattle.ere_tree.specs.Class.{is_blank, is_digit, is_xdigit}
use Rattle.num_exprs.specs.Name.{is_in_name}
use Rattle.num_exprs.specs.declared.row.Row.{Row}
use Rattle.num_exprs.specs.declared.row.Row.TheVariants.{Blanks, Digits, HexDigits, NameBytes}

-- whether a byte may stand in the row
abbrev pub is_in_row : Row → ℕ → Bool
is_in_row Blanks b = is_blank b
is_in_row Digits b = is_digit b
is_in_row HexDigits b = is_xdigit b
is_in_row NameBytes b = is_in_name b
