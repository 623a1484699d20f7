-- The definitions' pieces that the code's values stand for.
use Rattle.std.specs.Prelude.{ℕ, ◌-◌, ◌<◌, ◌≤◌, List, [], ◌∷◌, length, map, take, drop}
use Rattle.pattern_parse.specs.Cut.{IsCut, Raw, text, regex, block, Ending, over, no_regex_end, no_block_end}
use Rattle.pattern_parse.specs.declared.cutting.Cut as cuts
use Rattle.pattern_parse.specs.declared.cutting.Raw as raws
use Rattle.pattern_parse.specs.declared.cutting.RawKind.{RawKind}
use Rattle.pattern_parse.specs.declared.cutting.RawKind.TheVariants as kind
use Rattle.pattern_parse.specs.declared.cutting.Step as steps
use Rattle.pattern_parse.specs.declared.cutting.Step.TheVariants as step
use Rattle.pattern_parse.specs.declared.cutting.Ending as endings
use Rattle.pattern_parse.specs.declared.cutting.Ending.TheVariants as ending

abbrev pub raw_of : RawKind → List ℕ → Raw
raw_of kind.Text bytes = text bytes
raw_of kind.Regex bytes = regex bytes
raw_of kind.Block bytes = block bytes

-- a piece of a body
abbrev pub raw_view : List ℕ → raws.Raw → Raw
raw_view body raw = raw_of raw.kind (take (raw.to - raw.from) (drop raw.from body))

abbrev pub raws_view : List ℕ → List raws.Raw → List Raw
raws_view body raws = map (raw_view body) raws

abbrev pub ending_view : endings.Ending → Ending
ending_view ending.Over = over
ending_view ending.NoRegexEnd = no_regex_end
ending_view ending.NoBlockEnd = no_block_end

-- a body was cut into these pieces
abbrev pub IsCutAs : List ℕ → cuts.Cut → Type 0
IsCutAs body made = IsCut body (raws_view body made.raws.items) (ending_view made.ending)

-- what comes next in a body from an offset on
abbrev pub Steps : List ℕ → ℕ → steps.Step → Type 0
Steps body at (step.Piece raw next) = (at < next) × (next ≤ length body)
    × ((more : List Raw) (e : Ending) → IsCut (drop next body) more e
    → IsCut (drop at body) (raw_view body raw ∷ more) e)
Steps body at (step.Ends ending) = IsCut (drop at body) [] (ending_view ending)
