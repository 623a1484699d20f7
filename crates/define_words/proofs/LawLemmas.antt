-- Shown: the laws of definitions, number by number and value by value.
-- Idea: a number has a known format or none; a value binds something, or it is the first that is refused.
-- The hard one is `first_from`, by cases of a value and of those behind it.
use Rattle.std.proofs.Common.{◌≡◌, ◌∙◌, ℕ, ℤ, pos, Bool, true, false, List, [], ◌∷◌, ◌++◌, Option, Some, None, Result, Ok, Err, if◌then◌else◌, ◌+◌, refl, sym, ap, subst}
use Rattle.std.specs.Prelude.{IsOk, is_some}
use Rattle.std.specs.FinMap.{FinMap, empty, get, get-empty, insert}
use Rattle.num_base.specs.Names.{name_cmp}
use Rattle.num_base.specs.declared.format.Format.{Format}
use Rattle.num_exprs.specs.declared.block.PlacedName.{PlacedName}
use Rattle.pattern_parse.specs.Block.{differs, uses_read}
use Rattle.pattern_parse.specs.declared.fault.PatKind.TheVariants.{FormatConflict, SameLineNumber}
use Rattle.pattern_parse.specs.declared.fault.PatFault.{PatFault}
use Rattle.pattern_vars.specs.declared.binding.Binding.{Binding}
use Rattle.define_words.specs.Defined.{and_bindings, binding_of, fresh_by, numbers_with, words_of}
use Rattle.define_words.specs.Format.{shared}
use Rattle.define_words.specs.Laws.{FormatIsOfBlocks, RefusedIsFirst, seen_of}
use Rattle.define_words.specs.Word.{known_with, word_of}
use Rattle.define_words.proofs.DefinedLemmas.{binds, binds_nothing}

-- ---- formats

same_formats : (known : List ℕ → Option Format) (at : ℕ) (uses : List PlacedName) (used : FinMap name_cmp ℤ)
    (seen : Option Format) → seen_of (uses_read known empty false at used seen uses) ≡ shared known seen uses
same_formats known at [] used seen = refl
same_formats known at (named ∷ uses) used seen =
    ap (λ own. seen_of (if is_some own then refused else left (known named.name))) (get-empty name_cmp named.name)
    ∙ by_found (λ before. same_formats known at uses (insert used named.name (pos 1)) before) (known named.name)
  where
    refused : Result (Option Format × FinMap name_cmp ℤ) PatFault
    refused = Err (record { at = at + named.at; kind = SameLineNumber })

    behind : Option Format → Result (Option Format × FinMap name_cmp ℤ) PatFault
    behind before = uses_read known empty false at (insert used named.name (pos 1)) before uses

    by_test : Format → Bool → Result (Option Format × FinMap name_cmp ℤ) PatFault
    by_test format test =
        if test then Err (record { at = at + named.at; kind = FormatConflict }) else behind (Some format)

    left : Option Format → Result (Option Format × FinMap name_cmp ℤ) PatFault
    left None = behind seen
    left (Some format) = by_test format (differs seen format)

    right : Option Format → Option (Option Format)
    right None = shared known seen uses
    right (Some format) = if differs seen format then None else shared known (Some format) uses

    each : ((before : Option Format) → seen_of (behind before) ≡ shared known before uses) → (format : Format)
        (test : Bool) → seen_of (by_test format test) ≡ (if test then None else shared known (Some format) uses)
    each go format true = refl
    each go format false = go (Some format)

    by_found : ((before : Option Format) → seen_of (behind before) ≡ shared known before uses)
        → (found : Option Format) → seen_of (left found) ≡ right found
    by_found go None = go seen
    by_found go (Some format) = each go format (differs seen format)

pub format_is_of_blocks : FormatIsOfBlocks
format_is_of_blocks known at used uses = same_formats known at uses used None

-- ---- the first refusal

abbrev fresh_from : FinMap name_cmp Format → FinMap name_cmp ℤ → List (List ℕ) → Result (List Binding) (List ℕ)
fresh_from known numbers values = fresh_by numbers (words_of known values)

-- the formats behind a value
abbrev behind_value : FinMap name_cmp Format → List ℕ → FinMap name_cmp Format
behind_value known value = known_with known (word_of (get known) value)

-- one value more, which binds something or not
value_binds : (known : FinMap name_cmp Format) (numbers : FinMap name_cmp ℤ) (value : List ℕ) (values : List (List ℕ))
    (binding : Binding) → binding_of (get numbers) (word_of (get known) value) ≡ Some binding
    → fresh_from known numbers (value ∷ values)
    ≡ and_bindings binding (fresh_from (behind_value known value) (numbers_with numbers binding) values)
unfolding words_of
value_binds known numbers value values binding is =
    binds numbers value (word_of (get known) value) (words_of (behind_value known value) values) binding is

value_binds_nothing : (known : FinMap name_cmp Format) (numbers : FinMap name_cmp ℤ) (value : List ℕ)
    (values : List (List ℕ))
    → binding_of (get numbers) (word_of (get known) value) ≡ None
    → fresh_from known numbers (value ∷ values) ≡ Err value
unfolding words_of
value_binds_nothing known numbers value values is =
    binds_nothing numbers value (word_of (get known) value) (words_of (behind_value known value) values) is

no_values : (known : FinMap name_cmp Format) (numbers : FinMap name_cmp ℤ) → fresh_from known numbers [] ≡ Ok []
unfolding words_of fresh_by
no_values known numbers = refl

also_ok : (binding : Binding) (later : Result (List Binding) (List ℕ)) → IsOk later → IsOk (and_bindings binding later)
also_ok binding (Ok bindings) is = refl
also_ok binding (Err value) is = is

also_refused : (binding : Binding) (later : Result (List Binding) (List ℕ)) (value : List ℕ)
    → and_bindings binding later ≡ Err value → later ≡ Err value
also_refused binding (Ok bindings) value is = cc
also_refused binding (Err other) value is = is

abbrev IsFirst : FinMap name_cmp Format → FinMap name_cmp ℤ → List (List ℕ) → List ℕ → Type 0
IsFirst known numbers values value =
    (before after : List (List ℕ)) × (values ≡ before ++ value ∷ after) × IsOk (fresh_from known numbers before)
    × (fresh_from known numbers (before ++ value ∷ []) ≡ Err value)

first_from : (known : FinMap name_cmp Format) (numbers : FinMap name_cmp ℤ) (values : List (List ℕ)) (value : List ℕ)
    → fresh_from known numbers values ≡ Err value → IsFirst known numbers values value
first_from known numbers [] value is = let none : Ok [] ≡ Err value = sym (no_values known numbers) ∙ is in cc
first_from known numbers (one ∷ values) value is =
    by_one (λ behind with_one. first_from behind with_one values value)
    (binding_of (get numbers) (word_of (get known) one)) refl
  where
    by_one : ((behind : FinMap name_cmp Format) (with_one : FinMap name_cmp ℤ)
        → fresh_from behind with_one values ≡ Err value
        → IsFirst behind with_one values value) → (bound : Option Binding)
        → binding_of (get numbers) (word_of (get known) one) ≡ bound → IsFirst known numbers (one ∷ values) value
    by_one go None none =
        let refused : Err one ≡ Err value = sym (value_binds_nothing known numbers one values none) ∙ is in
        let same : one ≡ value = cc in (
          [],
          values,
          ap (λ v. v ∷ values) same,
          subst IsOk (sym (no_values known numbers)) refl,
          ap (λ v. fresh_from known numbers (v ∷ [])) (sym same) ∙ value_binds_nothing known numbers one [] none
              ∙ refused,
        )
    by_one go (Some binding) bound =
        let later = fresh_from (behind_value known one) (numbers_with numbers binding) values in
        let refused : later ≡ Err value =
        also_refused binding later value (sym (value_binds known numbers one values binding bound) ∙ is) in
        let (before, after, split, ok, told) = go (behind_value known one) (numbers_with numbers binding) refused in (
          one ∷ before,
          after,
          ap (λ vs. one ∷ vs) split,
          subst IsOk (sym (value_binds known numbers one before binding bound)) (also_ok binding _ ok),
          value_binds known numbers one (before ++ value ∷ []) binding bound ∙ ap (and_bindings binding) told,
        )

pub refused_is_first : RefusedIsFirst
refused_is_first values value is = first_from empty empty values value is
