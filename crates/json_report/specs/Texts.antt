-- The text of a JSON value on one line. After RFC 8259; a float has no text of its own here, and a reader follows 127 levels.
use Rattle.std.specs.Prelude.{◌≡◌, ◌≤◌, ℕ, List, false, Some}
use Rattle.serde_json.specs.Data.{Data, depth}
use Rattle.serde_json.specs.Read.{max_depth, read}
use Rattle.serde_json.specs.Written.{compact_text, has_float}

-- it is the text of the value without a blank
abbrev pub IsCompact : Data → List ℕ → Type 0
IsCompact value text = has_float value ≡ false → text ≡ compact_text value

-- it is read as the value
abbrev pub ReadsAs : Data → List ℕ → Type 0
ReadsAs value text = depth value ≤ max_depth → read text ≡ Some value
