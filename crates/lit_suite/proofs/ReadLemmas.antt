-- What was read of some values, and of those that are left, is what is read of all.
-- Shown by cases on what is read of the rest: it is nothing, or stands behind what was read.
use Rattle.std.proofs.Common.{◌≡◌, ◌≢◌, length, Option, None, Some, List, [], ◌∷◌, ◌++◌, refl, ap, sym, append_assoc, append-nil}
use Rattle.std.specs.Option.{option_map}
use Rattle.toml.specs.Data.{Data, as_array}
use Rattle.toml.specs.View.{items_view}
use Rattle.toml.specs.declared.value.Value.{Value}
use Rattle.lit_suite.specs.Values.{onto, pair_in, pair_of}

-- what was read, before what is read of the rest
abbrev pub with_front : {T : Type 0} → List T → Option (List T) → Option (List T)
with_front read rest = option_map (λ more. read ++ more) rest

pub front_none : {T : Type 0} (rest : Option (List T)) → with_front [] rest ≡ rest
front_none None = refl
front_none (Some more) = refl

pub front_more : {T : Type 0} (read : List T) (x : T) (rest : Option (List T))
    → with_front (read ++ x ∷ []) rest ≡ with_front read (onto (Some x) rest)
front_more read x None = refl
front_more read x (Some more) = ap Some (append_assoc read (x ∷ []) more)

pub front_all : {T : Type 0} (read : List T) → with_front read (Some []) ≡ Some read
front_all read = ap Some (append-nil read)

-- ---- pairs

other_count : (values : List Value) → length values ≢ 2 → pair_in (items_view values) ≡ None
other_count [] other = refl
other_count (first ∷ []) other = refl
other_count (first ∷ second ∷ []) other = absurd (other refl)
other_count (first ∷ second ∷ third ∷ more) other = refl

-- a list of another length is no pair
pub other_pair : (value : Data) (values : List Value) → Some (items_view values) ≡ as_array value → length values ≢ 2
    → None ≡ pair_of value
other_pair value values listed other = rw (← listed) (sym (other_count values other))
