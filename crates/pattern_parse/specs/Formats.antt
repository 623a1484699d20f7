-- Formats under names, as the code holds them: at a place with nothing in it a name has no format.
use Rattle.std.specs.Prelude.{◌≡◌, ℕ, zero, suc, Bool, true, is_some, List, [], ◌∷◌, Vec, Option, Some, None, refl}
use Rattle.std.specs.Coded.{Coded, code_by, coded×, coded_ℕ, coded_bool}
use Rattle.std.specs.FinMap.{FinMap, empty, insert, remove}
use Rattle.std.specs.BTreeMap.{is_at}
use Rattle.std.specs.Cmp.Lexicographic.{slice_cmp}
use Rattle.std.specs.Map.{lookup, set_value}
use Rattle.std.specs.Ordering.{nat_cmp}
use Rattle.std.specs.declared.alloc.Global.{Global}
use Rattle.num_base.specs.Names.{name_cmp}
use Rattle.num_base.specs.declared.format.Format.{Format}
use Rattle.num_base.specs.declared.format.FormatKind.{FormatKind}
use Rattle.num_base.specs.declared.format.FormatKind.TheVariants.{Unsigned, Signed, LowerHex, UpperHex}
use Rattle.pattern_parse.specs.Item.{Item}
use Rattle.pattern_parse.specs.Pieces.{with_format, with_formats}
use Rattle.pattern_parse.specs.declared.pattern.Piece.{Piece}
use Rattle.pattern_parse.specs.declared.pattern.Piece.TheVariants as piece

-- a kind by its number, which tells it
abbrev pub kind_number : FormatKind → ℕ
kind_number Unsigned = 0
kind_number Signed = 1
kind_number LowerHex = 2
kind_number UpperHex = 3

abbrev pub kind_of : ℕ → FormatKind
kind_of zero = Unsigned
kind_of (suc zero) = Signed
kind_of (suc (suc zero)) = LowerHex
kind_of (suc (suc (suc n))) = UpperHex

pub kind_back : (kind : FormatKind) → kind_of (kind_number kind) ≡ kind
kind_back Unsigned = refl
kind_back Signed = refl
kind_back LowerHex = refl
kind_back UpperHex = refl

abbrev pub format_code : Coded Format
format_code = code_by (ℕ × (Bool × ℕ)) (coded× coded_ℕ (coded× coded_bool coded_ℕ))
    (λ f. (kind_number f.kind, (f.alternate, f.digits)))
    (λ p. record { kind = kind_of p.0; alternate = p.1.0; digits = p.1.1 })
    (λ f i. record { kind = kind_back f.kind i; alternate = f.alternate; digits = f.digits })

-- a map with a place at a name
abbrev pub with_place : FinMap name_cmp Format → List ℕ → Option Format → FinMap name_cmp Format
with_place known name None = remove known name
with_place known name (Some format) = insert known name format

-- the map that entries make
abbrev pub by_places : List (Vec ℕ Global × Option Format) → FinMap name_cmp Format
by_places [] = empty
by_places (e ∷ es) = with_place (by_places es) e.0.items e.1

-- what the entries have at a name
abbrev pub value_at : List (Vec ℕ Global × Option Format) → List ℕ → Option (Option Format)
value_at es q = lookup (is_at (λ k. slice_cmp nat_cmp q k.items)) es

-- the entries with a format at a name that has a place
abbrev pub with_entry : List ℕ → Format → List (Vec ℕ Global × Option Format) → List (Vec ℕ Global × Option Format)
with_entry name format es = set_value (is_at (λ k. slice_cmp nat_cmp name k.items)) es (Some format)

-- the formats of the numbers that items define are set, in order
abbrev pub SetsFormat : List (Vec ℕ Global × Option Format) → List (Vec ℕ Global × Option Format) → Item → Type 0
SetsFormat es others item = by_places others ≡ with_format (by_places es) item

abbrev pub SetsFormats : List (Vec ℕ Global × Option Format) → List (Vec ℕ Global × Option Format) → List Item → Type 0
SetsFormats es others items = by_places others ≡ with_formats (by_places es) items

-- places stay
abbrev pub Stays : List (Vec ℕ Global × Option Format) → List (Vec ℕ Global × Option Format) → Type 0
Stays es others = (q : List ℕ) → is_some (value_at es q) ≡ true → is_some (value_at others q) ≡ true

abbrev pub NamePlace : List (Vec ℕ Global × Option Format) → Option (List ℕ) → Type 0
NamePlace es None = Unit {0}
NamePlace es (Some name) = is_some (value_at es name) ≡ true

-- whether the number that a piece defines has a place
abbrev pub HasPlace : List (Vec ℕ Global × Option Format) → Piece → Type 0
HasPlace es (piece.Num block format) = NamePlace es block.defines
HasPlace es (piece.Plain bytes) = Unit {0}
HasPlace es (piece.Regex ere) = Unit {0}
HasPlace es (piece.Define name ere) = Unit {0}
HasPlace es (piece.Recall name) = Unit {0}

abbrev pub HasPlaces : List (Vec ℕ Global × Option Format) → List Piece → Type 0
HasPlaces es [] = Unit {0}
HasPlaces es (p ∷ ps) = HasPlace es p × HasPlaces es ps
