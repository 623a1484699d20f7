-- Pieces of a pattern, and refusals, as plain data.
use Rattle.std.specs.Prelude.{ℕ, List, Result, Err}
use Rattle.ere_tree.specs.Tree.{Tree}
use Rattle.num_base.specs.declared.format.Format.{Format}
use Rattle.num_exprs.specs.Block.{Num}
use Rattle.pattern_parse.specs.declared.fault.PatFault.{PatFault}
use Rattle.pattern_parse.specs.declared.fault.PatKind.{PatKind}

-- plain text; a regular expression; a text that is defined by one; a text that was defined; a number
pub data Item : Type 0 where
  plain : List ℕ → Item
  regex : Tree → Item
  define : List ℕ → Tree → Item
  recall : List ℕ → Item
  number : Num → Format → Item

-- a refusal of this kind at an offset of the body
abbrev pub refused : {A : Type 0} → PatKind → ℕ → Result A PatFault
refused kind at = Err (record { at = at; kind = kind })
