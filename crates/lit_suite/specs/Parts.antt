-- A part of a suite: a directory below its root, with features and substitutions of its own.
-- Own rule: a part has a path, and may have features and substitutions; anything else in it is no good.
use Rattle.std.specs.Prelude.{ℕ, ◌==◌, Bool, ◌||◌, not, codes, if◌then◌else◌, List, [], ◌∷◌, Option, None, Some}
use Rattle.std.specs.List.{list_any, list_all, slice_split}
use Rattle.std.specs.Option.{option_and_then, option_map}
use Rattle.std.specs.Str.{bytes_eq}
use Rattle.toml.specs.Data.{Data, Members, no_members, member, as_table, get_member}
use Rattle.tt_outside.specs.declared.request.Pair.{Pair}
use Rattle.lit_suite.specs.declared.suite_file.Part.{Part}
use Rattle.lit_suite.specs.Values.{full_texts, list_of, pairs_of, text_that}

-- a part of a path that names something
abbrev pub is_name : List ℕ → Bool
is_name part = not (bytes_eq part [] || (bytes_eq part (codes ".") || bytes_eq part (codes "..")))

-- a path below a directory
abbrev pub is_inner_path : List ℕ → Bool
is_inner_path path = list_all is_name (slice_split (λ byte. byte == 47) path)

-- the first key that the test doesn't take; the members of a table stand in byte order of their keys
abbrev pub first_other : (List ℕ → Bool) → Members → Option (List ℕ)
first_other takes no_members = None
first_other takes (member key value more) = if takes key then first_other takes more else Some key

abbrev pub is_key_of : List (List ℕ) → List ℕ → Bool
is_key_of keys key = list_any (λ one. bytes_eq one key) keys

-- the first key that isn't one of these
abbrev pub other_key : List (List ℕ) → Members → Option (List ℕ)
other_key keys members = first_other (is_key_of keys) members

-- the value of a key that may be absent
abbrev pub optional : {T : Type 0} → T → (Data → Option T) → Option Data → Option T
optional absent read None = Some absent
optional absent read (Some value) = read value

-- the texts of a key that may be absent, and its pairs
abbrev pub optional_texts : List ℕ → Members → Option (List (List ℕ))
optional_texts key members = optional [] full_texts (get_member key members)

abbrev pub optional_pairs : List ℕ → Members → Option (List Pair)
optional_pairs key members = optional [] pairs_of (get_member key members)

abbrev pub inner_path : Data → Option (List ℕ)
inner_path value = text_that is_inner_path value

abbrev pub part_from : Option (List ℕ) → Option (List (List ℕ)) → Option (List Pair) → Option Part
part_from path features substitutions =
    option_and_then (λ path. option_and_then (λ features. option_map (λ substitutions.
    record { path = path; features = features; substitutions = substitutions }) substitutions) features) path

abbrev pub part_keys : List (List ℕ)
part_keys = codes "path" ∷ codes "features" ∷ codes "substitutions" ∷ []

abbrev pub unless_other : Option (List ℕ) → Option Part → Option Part
unless_other None part = part
unless_other (Some key) part = None

abbrev pub part_in : Members → Option Part
part_in members =
    unless_other (other_key part_keys members)
    (part_from (option_and_then inner_path (get_member (codes "path") members))
    (optional_texts (codes "features") members) (optional_pairs (codes "substitutions") members))

abbrev pub part_of : Data → Option Part
part_of value = option_and_then part_in (as_table value)

abbrev pub parts_of : Data → Option (List Part)
parts_of value = list_of part_of value
