-- What the pieces of a made directive stand for, whatever variables hold.
-- Own rule: none of them uses a name, so they stand for one expression, and a match gives nothing.
use Rattle.std.specs.Prelude.{◌≡◌, false, List, [], ◌∷◌, map}
use Rattle.ere_tree.specs.Tree.{line_start}
use Rattle.line_laws.specs.Left.{any_byte, any_filled, alternatives, dot}
use Rattle.line_laws.specs.Quoted.{line_tree}
use Rattle.quote_laws.specs.Quote.{Part, bit_of, items_of}
use Rattle.pattern_instance.specs.Instance.{instance_of, made}
use Rattle.pattern_instance.specs.Known.{Known}
use Rattle.pattern_parse.specs.Item.{regex}
use Rattle.pattern_parse.specs.declared.pattern.Frame.TheVariants.{Open}
use Rattle.ere_tree.specs.Tree.{alt}

-- the pieces of a line stand for its expression, and those of the two NOTs for theirs
pub record InstancesAre (known : Known) (parts : List Part) : Type 0 where
  pub line : instance_of known Open (regex line_start ∷ items_of parts) ≡ made (line_tree (map bit_of parts)) []
  pub left : instance_of known Open (regex dot ∷ []) ≡ made any_filled []
  pub stands : instance_of known Open (regex (alt alternatives) ∷ []) ≡ made any_byte []

abbrev pub LinesAreMade : Type 0
LinesAreMade = (known : Known) (parts : List Part) → known.fold ≡ false → InstancesAre known parts
