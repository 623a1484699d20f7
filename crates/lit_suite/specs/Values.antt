-- The values of a suite file.
-- Own rule: a text has no newline and no zero byte; where a table or a list is asked for, each value in it must be good.
use Rattle.std.specs.Prelude.{ℕ, ◌==◌, Bool, true, ◌&&◌, ◌||◌, not, nat_le, if◌then◌else◌, List, [], ◌∷◌, length, Option, None, Some}
use Rattle.std.specs.List.{list_any}
use Rattle.std.specs.Option.{option_map, option_and_then}
use Rattle.std.specs.Str.{bytes_eq}
use Rattle.toml.specs.Data.{Data, Items, no_items, item, Members, no_members, member, as_str, as_array, as_table}
use Rattle.tt_outside.specs.declared.request.Pair.{Pair}

-- a byte that stands in no text: a newline, or zero
abbrev pub is_break : ℕ → Bool
is_break byte = byte == 10 || byte == 0

abbrev pub is_text : List ℕ → Bool
is_text bytes = not (list_any is_break bytes)

abbrev pub is_full : List ℕ → Bool
is_full bytes = not (bytes_eq bytes [])

-- a text that passes a test
abbrev pub text_that : (List ℕ → Bool) → Data → Option (List ℕ)
text_that test value = option_and_then (λ bytes. if is_text bytes && test bytes then Some bytes else None) (as_str value)

abbrev pub any_text : Data → Option (List ℕ)
any_text value = text_that (λ bytes. true) value

-- a text that isn't empty
abbrev pub full_text : Data → Option (List ℕ)
full_text value = text_that is_full value

-- a text of 1 to 100 bytes
abbrev pub name_text : Data → Option (List ℕ)
name_text value = text_that (λ bytes. is_full bytes && nat_le (length bytes) 100) value

abbrev pub onto : {T : Type 0} → Option T → Option (List T) → Option (List T)
onto first rest = option_and_then (λ x. option_map (λ xs. x ∷ xs) rest) first

-- what is read of each value, where all are good
abbrev pub each_of : {T : Type 0} → (Data → Option T) → Items → Option (List T)
each_of read no_items = Some []
each_of read (item value values) = onto (read value) (each_of read values)

-- a list of values
abbrev pub list_of : {T : Type 0} → (Data → Option T) → Data → Option (List T)
list_of read value = option_and_then (each_of read) (as_array value)

-- texts that aren't empty
abbrev pub full_texts : Data → Option (List (List ℕ))
full_texts value = list_of full_text value

abbrev pub unless_none : {T : Type 0} → List T → Option (List T)
unless_none [] = None
unless_none (x ∷ xs) = Some (x ∷ xs)

-- one or more texts that aren't empty
abbrev pub some_full_texts : Data → Option (List (List ℕ))
some_full_texts value = option_and_then unless_none (full_texts value)

abbrev pub pair_from : Option (List ℕ) → Option (List ℕ) → Option Pair
pair_from name value = option_and_then (λ name. option_map (λ value. record { name = name; value = value }) value) name

-- a list of two texts, of which the first isn't empty
abbrev pub pair_in : Items → Option Pair
pair_in (item name (item value no_items)) = pair_from (full_text name) (any_text value)
pair_in no_items = None
pair_in (item name no_items) = None
pair_in (item name (item value (item other more))) = None

abbrev pub pair_of : Data → Option Pair
pair_of value = option_and_then pair_in (as_array value)

abbrev pub pairs_of : Data → Option (List Pair)
pairs_of value = list_of pair_of value

-- a name and its text in a table
abbrev pub named_text : List ℕ → Data → Option Pair
named_text name value = pair_from (if is_text name then Some name else None) (any_text value)

-- a table of texts, in byte order of its keys
abbrev pub named_in : Members → Option (List Pair)
named_in no_members = Some []
named_in (member name value more) = onto (named_text name value) (named_in more)

abbrev pub named_of : Data → Option (List Pair)
named_of value = option_and_then named_in (as_table value)
