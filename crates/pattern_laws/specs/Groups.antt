-- What a match gives is there: each group that a gift reads holds a part of the match. Own rule.
use Rattle.std.specs.Prelude.{◌≡◌, ℕ, ◌≤◌, Some, List, [], ◌∷◌, length, slice_get}
use Rattle.std.specs.FinMap.{FinMap}
use Rattle.ere_hit.specs.Value.{hit_in}
use Rattle.ere_tree.specs.Tree.{Tree}
use Rattle.ere_tree.specs.declared.hit.Cap.{Cap}
use Rattle.ere_tree.specs.declared.hit.Hit.{Hit}
use Rattle.num_base.specs.Names.{name_cmp}
use Rattle.pattern_instance.specs.Instance.{made, instance_of}
use Rattle.pattern_instance.specs.Known.{Known}
use Rattle.pattern_instance.specs.declared.gift.Gift.{Gift}
use Rattle.pattern_instance.specs.declared.gift.Gift.TheVariants.{Text, Number, Given}
use Rattle.pattern_parse.specs.Item.{Item}
use Rattle.pattern_parse.specs.declared.pattern.Frame.{Frame}
use Rattle.pattern_parse.specs.declared.pattern.Pattern.{Pattern}
use Rattle.pattern_scan.specs.Seek.{sought}
use Rattle.pattern_scan.specs.declared.sought.Sought.TheVariants.{Unreadable}
use Rattle.pattern_vars.specs.declared.vars.Held.{Held}
use Rattle.tt_base.specs.declared.place.Span.{Span}

-- the group behind so many groups holds a part of the match
abbrev pub IsSet : Hit → ℕ → Type 0
IsSet hit n =
    (cap : Cap) × (slice_get hit.groups n ≡ Some (Some cap))
    × (hit.from ≤ cap.from) × (cap.from ≤ cap.to) × (cap.to ≤ hit.to)

-- what a gift reads is there
abbrev pub IsThere : Hit → Gift → Type 0
IsThere hit (Text name n) = IsSet hit n
IsThere hit (Number name n format) = IsSet hit n
IsThere hit (Given name value) = Unit {0}

abbrev pub AreThere : Hit → List Gift → Type 0
AreThere hit [] = Unit {0}
AreThere hit (gift ∷ gifts) = IsThere hit gift × AreThere hit gifts

-- Law: in a match of a pattern's instance all that its gifts read is there.
abbrev pub GroupsAreSet : Type 0
GroupsAreSet =
    (known : Known) (frame : Frame) (items : List Item) (t : Tree) (gifts : List Gift) (text : List ℕ) (from : ℕ)
    (hit : Hit) → from ≤ length text → instance_of known frame items ≡ made t gifts → hit_in text t from ≡ Some hit
    → AreThere hit gifts

-- Law: a number that can't be read stands in the slice where the pattern was sought.
abbrev pub UnreadableLies : Type 0
UnreadableLies =
    (pattern : Pattern) (vars : FinMap name_cmp Held) (text : List ℕ) (from line : ℕ) (span : Span)
    → from ≤ length text → sought pattern vars text from line ≡ Unreadable span
    → (from ≤ span.from) × (span.from ≤ span.to) × (span.to ≤ length text)
