-- The names that patterns define or use.
-- Own rule: each once, in order; of a numeric block the name that it defines comes first.
use Rattle.std.specs.Prelude.{ℕ, List, [], ◌∷◌, ◌++◌, Option, Some, None}
use Rattle.std.specs.FinMap.{empty}
use Rattle.std.specs.List.{cons_option, flat_map}
use Rattle.check_group.specs.declared.directive.Check.{Check}
use Rattle.num_base.specs.Term.{Term, literal, line, name, binary}
use Rattle.num_exprs.specs.Block.{Num}
use Rattle.pattern_instance.specs.Missing.{each_once}
use Rattle.pattern_parse.specs.Item.{Item, plain, regex, define, recall, number}
use Rattle.pattern_parse.specs.PieceView.{items_view}

-- the names of an expression, in order
abbrev pub named_in : Term → List (List ℕ)
named_in (literal z) = []
named_in line = []
named_in (name one) = one ∷ []
named_in (binary op left right) = named_in left ++ named_in right

abbrev pub named_by : Option Term → List (List ℕ)
named_by None = []
named_by (Some t) = named_in t

-- the names of a numeric block
abbrev pub names_in_block : Num → List (List ℕ)
names_in_block num = cons_option num.defines (named_by num.expr)

-- the names of a piece
abbrev pub names_at : Item → List (List ℕ)
names_at (plain bytes) = []
names_at (regex t) = []
names_at (define one t) = one ∷ []
names_at (recall one) = one ∷ []
names_at (number num format) = names_in_block num

-- the names of pieces, and of directives
abbrev pub names_in : List Item → List (List ℕ)
names_in items = flat_map names_at items

abbrev pub names_all : List Check → List (List ℕ)
names_all checks = flat_map (λ check. names_in (items_view check.pattern.pieces)) checks

-- each once
abbrev pub names_once : List Check → List (List ℕ)
names_once checks = each_once empty (names_all checks)
