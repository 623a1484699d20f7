-- No piece of a made directive has a group or uses a name, so each part is its tree.
use Rattle.std.proofs.Common.{◌≡◌, ℕ, ◌+◌, false, List, [], ◌∷◌, map, append-nil, None, Ok, refl, ap, ◌∙◌}
use Rattle.std.specs.FinMap.{empty}
use Rattle.ere_tree.specs.Tree.{Tree, cat, line_start, trees_of}
use Rattle.ere_tree.specs.Tree as tree
use Rattle.line_laws.specs.Quoted.{line_tree, trees_behind}
use Rattle.quote_laws.specs.Instance.{LinesAreMade}
use Rattle.quote_laws.specs.Quote as quote_of
use Rattle.quote_laws.specs.Quote.{Part, bit_of, brace, items_of, text}
use Rattle.pattern_instance.specs.Instance.{instance_of, made, made_of, unless_missing}
use Rattle.pattern_instance.specs.Known.{Known}
use Rattle.pattern_instance.specs.Missing.{each_once, unknown, Names}
use Rattle.pattern_instance.specs.Parts.{Groups, Parts, cased, map_parts, ungrouped, parts_from, with_part}
use Rattle.pattern_parse.specs.Item.{regex}
use Rattle.pattern_parse.specs.declared.pattern.Frame.TheVariants.{Open}

none_unknown : (known : Known) (defined : Names) (parts : List Part) → unknown known defined (items_of parts) ≡ []
none_unknown known defined [] = refl
none_unknown known defined (text bytes ∷ parts) = none_unknown known defined parts
none_unknown known defined (quote_of.bracket ∷ parts) = none_unknown known defined parts
none_unknown known defined (brace ∷ parts) = none_unknown known defined parts

abbrev trees_only : List Tree → Parts
trees_only trees = record { trees = trees; gifts = [] }

parts_are : (known : Known) (n : ℕ) (groups : Groups) (parts : List Part) → known.fold ≡ false
    → parts_from known n groups (items_of parts) ≡ Ok (trees_only (trees_behind (map bit_of parts)))
parts_are known n groups [] plain = refl
parts_are known n groups (text bytes ∷ parts) plain =
    ap (λ b. map_parts (with_part (ungrouped (cased b (tree.plain bytes)) None)) (parts_from known (n + 0) groups (items_of parts)))
    plain
    ∙ ap (map_parts (with_part (ungrouped (tree.plain bytes) None))) (parts_are known (n + 0) groups parts plain)
parts_are known n groups (quote_of.bracket ∷ parts) plain =
    ap (map_parts (with_part (ungrouped (tree.plain (91 ∷ [])) None))) (parts_are known (n + 0) groups parts plain)
parts_are known n groups (brace ∷ parts) plain =
    ap (map_parts (with_part (ungrouped (tree.set (123 ∷ [])) None))) (parts_are known (n + 0) groups parts plain)

line_made : (known : Known) (parts : List Part) → known.fold ≡ false
    → instance_of known Open (regex line_start ∷ items_of parts) ≡ made (line_tree (map bit_of parts)) []
line_made known parts plain =
    ap (λ l. unless_missing (each_once empty l) (made_of Open (parts_from known 0 empty (regex line_start ∷ items_of parts))))
    (none_unknown known empty parts)
    ∙ ap (λ r. made_of Open (map_parts (with_part (ungrouped line_start None)) r)) (parts_are known 0 empty parts plain)
    ∙ ap (λ l. made (cat (trees_of l)) []) (append-nil (line_start ∷ trees_behind (map bit_of parts)))

pub lines_are_made : LinesAreMade
lines_are_made known parts plain = record { line = line_made known parts plain; left = refl; stands = refl }
