-- The format of a number of the command line: the written one, or else that of the numbers that its expression uses.
-- After LLVM Command Guide, FileCheck, 'FileCheck Numeric Substitution Blocks'. Own rule: numbers without a known format don't
-- count, and where the others have several there is none.
use Rattle.std.specs.Prelude.{ℕ, List, [], ◌∷◌, Option, Some, None, if◌then◌else◌}
use Rattle.std.specs.Option.{option_map}
use Rattle.num_base.specs.declared.format.Format.{Format}
use Rattle.num_exprs.specs.declared.block.PlacedName.{PlacedName}
use Rattle.pattern_parse.specs.Block.{differs, format_of}

-- the one format of numbers, behind one that was seen before them; there is none where two differ
abbrev pub shared : (List ℕ → Option Format) → Option Format → List PlacedName → Option (Option Format)
shared known seen [] = Some seen
shared known seen (named ∷ uses) = elim (known named.name) [
  | None ↦ shared known seen uses
  | Some format ↦ if differs seen format then None else shared known (Some format) uses
]

-- the format of a number whose expression uses these
abbrev pub word_format : (List ℕ → Option Format) → Option Format → List PlacedName → Option Format
word_format known (Some format) uses = Some format
word_format known None uses = option_map (format_of None) (shared known None uses)
