-- Numbers of groups.
-- Shown: a part has at most two groups more than its expression's greatest number; by cases on the piece.
-- The hard one is `wild_has_one`: what a format spells has at most one group.
use Rattle.std.proofs.Common.{◌≡◌, ℕ, ℤ, zero, suc, ◌+◌, ◌≤◌, Bool, true, false, cond, Option, Some, None, List, [], ◌∷◌, ◌++◌, Result, Ok, Err, refl, ap, arith}
use Rattle.ere_tree.specs.Grammar.{branch_of}
use Rattle.ere_tree.specs.Shape.{greatest_group, greatest_group_of, greatest_number, greatest_number_of}
use Rattle.ere_tree.specs.Tree.{Tree, Trees, empty, plain, set, line_start, line_end, cat, alt, repeat, group, back, none, then}
use Rattle.num_base.specs.declared.format.Format.{Format}
use Rattle.num_base.specs.declared.format.FormatKind.{FormatKind}
use Rattle.num_spell.specs.Spelling.{is_signed}
use Rattle.num_spell.specs.Wild.{wild, lead_parts, digit_parts}
use Rattle.num_base.specs.Eval.{value_of}
use Rattle.num_base.specs.Term.{Term}
use Rattle.num_base.specs.declared.evaluation.EvalFault.{EvalFault}
use Rattle.num_spell.specs.Spelling.{prints}
use Rattle.pattern_parse.specs.Item.{Item}
use Rattle.pattern_parse.specs.Item as item
use Rattle.pattern_parse.specs.Search.{greatest_of}
use Rattle.pattern_instance.specs.Known.{Known}
use Rattle.pattern_instance.specs.Parts.{Part, Groups, cased, shown, valued, number_part, part_of}
use Rattle.pattern_instance.specs.Views.{part_view}
use Rattle.pattern_instance.specs.declared.part.Part as parts

mutual
  pub groups_below : (t : Tree) → greatest_group t ≤ greatest_number t
  groups_below empty = omega arith
  groups_below (plain bytes) = omega arith
  groups_below (set bytes) = omega arith
  groups_below line_start = omega arith
  groups_below line_end = omega arith
  groups_below (cat ts) = all_groups_below ts
  groups_below (alt ts) = all_groups_below ts
  groups_below (repeat t least most) = groups_below t
  groups_below (group number t) = omega (arith, groups_below t)
  groups_below (back number fold) = omega arith

  all_groups_below : (ts : Trees) → greatest_group_of ts ≤ greatest_number_of ts
  all_groups_below none = omega arith
  all_groups_below (then t ts) = omega (arith, groups_below t, all_groups_below ts)

-- what a format spells, where `minus` tells whether a minus may stand in front
abbrev spelled_by : Bool → FormatKind → Bool → ℕ → Tree
spelled_by minus kind alternate digits =
    branch_of (cond minus (repeat (plain (45 ∷ [])) 0 (Some 1) ∷ []) []
    ++ (lead_parts alternate ++ digit_parts kind digits))

numbers_by : (fold minus : Bool) (kind : FormatKind) (alternate : Bool) (digits : ℕ)
    → greatest_number (cased fold (spelled_by minus kind alternate digits)) ≤ 1
numbers_by false false kind false zero = omega arith
numbers_by false false kind false (suc p) = omega arith
numbers_by false false kind true zero = omega arith
numbers_by false false kind true (suc p) = omega arith
numbers_by false true kind false zero = omega arith
numbers_by false true kind false (suc p) = omega arith
numbers_by false true kind true zero = omega arith
numbers_by false true kind true (suc p) = omega arith
numbers_by true false kind false zero = omega arith
numbers_by true false kind false (suc p) = omega arith
numbers_by true false kind true zero = omega arith
numbers_by true false kind true (suc p) = omega arith
numbers_by true true kind false zero = omega arith
numbers_by true true kind false (suc p) = omega arith
numbers_by true true kind true zero = omega arith
numbers_by true true kind true (suc p) = omega arith

pub wild_has_one : (fold : Bool) (format : Format) → greatest_number (cased fold (wild format)) ≤ 1
wild_has_one fold format = numbers_by fold (is_signed format.kind) format.kind format.alternate format.digits

-- a part has at most so many groups as its expression's greatest number, and two
abbrev groups_in : Result Part EvalFault → ℕ
groups_in (Ok part) = part.groups
groups_in (Err fault) = 0

shown_has_none : (fold : Bool) (defines : Option (List ℕ)) (value : ℤ) (text : Option (List ℕ))
    → groups_in (shown fold defines value text) ≡ 0
shown_has_none fold defines value None = refl
shown_has_none fold defines value (Some bytes) = refl

value_has_none : (fold : Bool) (defines : Option (List ℕ)) (format : Format) (r : Result ℤ EvalFault)
    → groups_in (valued fold defines format r) ≡ 0
value_has_none fold defines format (Ok value) = shown_has_none fold defines value (prints format value)
value_has_none fold defines format (Err fault) = refl

number_has_two : (known : Known) (n : ℕ) (defines : Option (List ℕ)) (format : Format) (t : Option Term)
    → groups_in (number_part known n defines format t) ≤ 2
number_has_two known n defines format None =
    omega (arith, groups_below (cased known.fold (wild format)), wild_has_one known.fold format)
number_has_two known n defines format (Some t) =
    omega (arith, value_has_none known.fold defines format (value_of known.number known.at t))

part_has_few : (known : Known) (n : ℕ) (groups : Groups) (one : Item)
    → groups_in (part_of known n groups one) ≤ greatest_of one + 2
part_has_few known n groups (item.plain bytes) = omega arith
part_has_few known n groups (item.regex t) = omega (arith, groups_below t)
part_has_few known n groups (item.define name t) = omega (arith, groups_below t)
part_has_few known n groups (item.recall name) = omega arith
part_has_few known n groups (item.number num format) = number_has_two known n num.defines format num.expr

pub few_groups : (known : Known) (n : ℕ) (groups : Groups) (one : Item) (part : parts.Part)
    → Ok (part_view part) ≡ part_of known n groups one → part.groups ≤ greatest_of one + 2
few_groups known n groups one part is =
    let same : part.groups ≡ groups_in (part_of known n groups one) = ap groups_in is in
    omega (arith, same, part_has_few known n groups one)
