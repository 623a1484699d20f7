-- Variables: what is held under a name, and how matches and blocks change it. After LLVM Command Guide, FileCheck,
-- 'FileCheck String Substitution Blocks', 'FileCheck Numeric Substitution Blocks' and `--enable-var-scope`. Own rule: a
-- text and a number of one name are apart from each other.
use Rattle.std.specs.Prelude.{◌≡◌, ℕ, ℤ, Bool, true, false, ◌==◌, is_some, All, List, [], ◌∷◌, map, Vec, Option, Some, None, IfSome, if◌then◌else◌}
use Rattle.std.specs.BTreeMap.{is_at}
use Rattle.std.specs.Cmp.Lexicographic.{slice_cmp}
use Rattle.std.specs.Coded.{Coded, code_by, coded×, coded_list, coded_option, coded_ℕ, coded_ℤ}
use Rattle.std.specs.FinMap.{FinMap, entries, from_entries, get, insert}
use Rattle.std.specs.List.{list_all}
use Rattle.std.specs.Map.{lookup, set_value}
use Rattle.std.specs.Option.{option_map}
use Rattle.std.specs.Ordering.{nat_cmp}
use Rattle.std.specs.declared.alloc.Global.{Global}
use Rattle.num_base.specs.Names.{by_names, name_cmp}
use Rattle.pattern_vars.specs.declared.binding.Binding.{Binding}
use Rattle.pattern_vars.specs.declared.binding.Binding.TheVariants.{Text, Number}
use Rattle.pattern_vars.specs.declared.vars.Held.{Held}

abbrev pub held_code : Coded Held
held_code = code_by (Option (List ℕ) × Option ℤ) (coded× (coded_option (coded_list coded_ℕ)) (coded_option coded_ℤ))
    (λ h. (h.text, h.number)) (λ p. record { text = p.0; number = p.1 })
    (λ h i. record { text = h.text; number = h.number })

-- where nothing is held
abbrev pub nothing_held : Held
nothing_held = record { text = None; number = None }

-- variables with a place under each name, in which nothing is held
abbrev pub with_places : FinMap name_cmp Held → List (List ℕ) → FinMap name_cmp Held
with_places vars [] = vars
with_places vars (name ∷ names) = with_places (insert vars name nothing_held) names

-- the text and the number under a name
abbrev pub text_in : Option Held → Option (List ℕ)
text_in None = None
text_in (Some one) = one.text

abbrev pub number_in : Option Held → Option ℤ
number_in None = None
number_in (Some one) = one.number

abbrev pub text_of : FinMap name_cmp Held → List ℕ → Option (List ℕ)
text_of vars name = text_in (get vars name)

abbrev pub number_of : FinMap name_cmp Held → List ℕ → Option ℤ
number_of vars name = number_in (get vars name)

-- the name that a match gives something
abbrev pub name_of : Binding → List ℕ
name_of (Text name text) = name
name_of (Number name value) = name

-- whether the name of a binding has a place, and whether all have one
abbrev pub has_place : FinMap name_cmp Held → Binding → Bool
has_place vars binding = is_some (get vars (name_of binding))

abbrev pub have_places : FinMap name_cmp Held → List Binding → Bool
have_places vars bindings = list_all (has_place vars) bindings

-- each of some names has a place
abbrev pub HavePlaces : FinMap name_cmp Held → List (List ℕ) → Type 0
HavePlaces vars names = All (λ name. is_some (get vars name) ≡ true) names

-- what is held with a text or a number: the other of the two stays
abbrev pub with_text : List ℕ → Held → Held
with_text text one = record one { text = Some text }

abbrev pub with_number : Option ℤ → Held → Held
with_number number one = record one { number = number }

-- what is held with a binding
abbrev pub held_with : Option Held → Binding → Held
held_with None (Text name text) = record { text = Some text; number = None }
held_with None (Number name value) = record { text = None; number = Some value }
held_with (Some one) (Text name text) = with_text text one
held_with (Some one) (Number name value) = with_number (Some value) one

-- the variables with a binding, and with all of them in order
abbrev pub bound : FinMap name_cmp Held → Binding → FinMap name_cmp Held
bound vars binding = insert vars (name_of binding) (held_with (get vars (name_of binding)) binding)

abbrev pub bound_all : FinMap name_cmp Held → List Binding → FinMap name_cmp Held
bound_all vars [] = vars
bound_all vars (binding ∷ bindings) = bound_all (bound vars binding) bindings

-- whether a name begins with `$`
abbrev pub is_lasting : List ℕ → Bool
is_lasting [] = false
is_lasting (byte ∷ rest) = byte == 36

-- what is left under a name at the start of a block
abbrev pub cleared : List ℕ → Held → Held
cleared name one = if is_lasting name then one else nothing_held

-- Behind the start of a block each name has what is left under it; no place comes or goes.
abbrev pub IsCleared : FinMap name_cmp Held → FinMap name_cmp Held → Type 0
IsCleared old new = (name : List ℕ) → get new name ≡ option_map (cleared name) (get old name)

-- the same as a value
unfoldable pub forgotten : FinMap name_cmp Held → FinMap name_cmp Held
forgotten vars = from_entries (map (λ e. (e.0, cleared e.0 e.1)) (entries vars))

-- what the code's entries have at a name
abbrev pub value_at : List (Vec ℕ Global × Held) → List ℕ → Option Held
value_at es q = lookup (is_at (λ k. slice_cmp nat_cmp q k.items)) es

-- a place with nothing in it is made under a name, and under each of some names
abbrev pub MakesPlace : List (Vec ℕ Global × Held) → List (Vec ℕ Global × Held) → List ℕ → Type 0
MakesPlace es others name = by_names others ≡ insert (by_names es) name nothing_held

abbrev pub MakesPlaces : List (Vec ℕ Global × Held) → List (Vec ℕ Global × Held) → List (List ℕ) → Type 0
MakesPlaces es others names = by_names others ≡ with_places (by_names es) names

-- what is held at a name is changed, where it has a place
abbrev pub Changes : List (Vec ℕ Global × Held) → List (Vec ℕ Global × Held) → List ℕ → (Held → Held) → Type 0
Changes es others name change = IfSome (value_at es name) (λ one.
    others ≡ set_value (is_at (λ k. slice_cmp nat_cmp name k.items)) es (change one))
