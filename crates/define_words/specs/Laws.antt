-- Laws of the definitions. Own rules: the numbers of a word have a format as those of a block have, and the first value that
-- defines nothing is refused.
use Rattle.std.specs.Prelude.{◌≡◌, ℕ, ℤ, false, List, [], ◌∷◌, ◌++◌, Option, Some, None, Result, Ok, Err, IsOk}
use Rattle.std.specs.FinMap.{FinMap, empty}
use Rattle.num_base.specs.Names.{name_cmp}
use Rattle.num_base.specs.declared.format.Format.{Format}
use Rattle.num_exprs.specs.declared.block.PlacedName.{PlacedName}
use Rattle.pattern_parse.specs.Block.{uses_read}
use Rattle.pattern_parse.specs.declared.fault.PatFault.{PatFault}
use Rattle.define_words.specs.Defined.{defined_by}
use Rattle.define_words.specs.Format.{shared}

-- the format that the numbers of a block were found to have, if they aren't refused
abbrev pub seen_of : Result (Option Format × FinMap name_cmp ℤ) PatFault → Option (Option Format)
seen_of (Ok seen) = Some seen.0
seen_of (Err fault) = None

-- Law: the one format of numbers is that of a block, without one of its own, that uses them.
abbrev pub FormatIsOfBlocks : Type 0
FormatIsOfBlocks =
    (known : List ℕ → Option Format) (at : ℕ) (used : FinMap name_cmp ℤ) (uses : List PlacedName)
    → seen_of (uses_read known empty false at used None uses) ≡ shared known None uses

-- Law: the value that is refused is the first: those before it define something, and with it they don't.
abbrev pub RefusedIsFirst : Type 0
RefusedIsFirst =
    (values : List (List ℕ)) (value : List ℕ) → (defined_by values).fresh ≡ Err value
    → (before after : List (List ℕ)) × (values ≡ before ++ value ∷ after) × IsOk (defined_by before).fresh
    × ((defined_by (before ++ value ∷ [])).fresh ≡ Err value)
