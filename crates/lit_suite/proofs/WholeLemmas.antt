-- Each suite that is read is whole.
-- Shown along the definition: what each step reads is as it should be, or the step refuses.
-- The hard one is `whole_suite`, which goes through the steps of a suite.
use Rattle.std.proofs.Common.{◌≡◌, ℕ, ◌<◌, Bool, true, false, ◌&&◌, cond, codes, if◌then◌else◌, List, [], ◌∷◌, length, Option, None, Some, Result, Ok, Err, refl, arith}
use Rattle.std.proofs.lemmas.Bool.{false≢true}
use Rattle.std.proofs.lemmas.List.Elements.{All-nil, All-cons}
use Rattle.std.specs.List.{All}
use Rattle.std.specs.Option.{IfSome, option_and_then}
use Rattle.std.specs.Result.{IfOk}
use Rattle.std.specs.Str.{is_utf8}
use Rattle.toml.specs.Parse.{parse_document}
use Rattle.toml.specs.Data.{Data, Items, no_items, item, Members, as_array, as_str, as_table, get_member}
use Rattle.tt_outside.specs.declared.request.Pair.{Pair}
use Rattle.lit_suite.specs.declared.suite_file.Part.{Part}
use Rattle.lit_suite.specs.declared.suite_file.Suite.{Suite}
use Rattle.lit_suite.specs.declared.suite_file.SuiteFault.{SuiteFault}
use Rattle.lit_suite.specs.Parts.{inner_path, optional, optional_pairs, optional_texts, other_key, part_keys, part_from, part_in, part_of, parts_of, unless_other}
use Rattle.lit_suite.specs.Suites.{and_read, document_suite, exec_root_at, good, keys_of, known, may_have, must_have, name_at, named_at, pairs_at, parts_at, suffixes_at, suite_file, suite_of, texts_at, version_of}
use Rattle.lit_suite.specs.Values.{any_text, each_of, full_text, full_texts, is_full, is_text, list_of, onto, pair_from, pair_in, pair_of, pairs_of, some_full_texts, unless_none}
use Rattle.lit_suite.specs.Whole.{AreFull, AreNamed, IsWhole, ReadingIsWhole}

-- a value is so, if there is one
unfoldable SomeIs : {T : Type 0} → (T → Type 0) → Option T → Type 0
SomeIs P value = IfSome value P

-- what is read is so, if it isn't refused
unfoldable OkIs : {T : Type 0} → (T → Type 0) → Result T SuiteFault → Type 0
OkIs P read = IfOk read P

-- ---- steps

and_some : {A B : Type 0} (P : B → Type 0) (Q : A → Type 0) (step : Option A) (next : A → Option B)
    → SomeIs Q step → ((x : A) → Q x → SomeIs P (next x)) → SomeIs P (option_and_then next step)
unfolding SomeIs
and_some P Q None next here more = tt
and_some P Q (Some x) next here more = more x here

and_any : {A B : Type 0} (P : B → Type 0) (step : Option A) (next : A → Option B)
    → ((x : A) → SomeIs P (next x)) → SomeIs P (option_and_then next step)
unfolding SomeIs
and_any P None next more = tt
and_any P (Some x) next more = more x

and_ok : {A B : Type 0} (P : B → Type 0) (Q : A → Type 0) (step : Result A SuiteFault) (next : A → Result B SuiteFault)
    → OkIs Q step → ((x : A) → Q x → OkIs P (next x)) → OkIs P (and_read step next)
unfolding OkIs
and_ok P Q (Err fault) next here more = tt
and_ok P Q (Ok x) next here more = more x here

skip : {A B : Type 0} (P : B → Type 0) (step : Result A SuiteFault) (next : A → Result B SuiteFault)
    → ((x : A) → OkIs P (next x)) → OkIs P (and_read step next)
unfolding OkIs
skip P (Err fault) next more = tt
skip P (Ok x) next more = more x

-- ---- values

abbrev IsFull : List ℕ → Type 0
IsFull text = 0 < length text

full_bytes : (bytes : List ℕ) → is_full bytes ≡ true → IsFull bytes
full_bytes [] e = absurd (false≢true e)
full_bytes (byte ∷ bytes) e = omega arith

kept : (bytes : List ℕ) (text full : Bool) → (full ≡ true → IsFull bytes)
    → SomeIs IsFull (cond (text && full) (Some bytes) None)
unfolding SomeIs
kept bytes false full holds = tt
kept bytes true false holds = tt
kept bytes true true holds = holds refl

whole_text : (value : Data) → SomeIs IsFull (full_text value)
whole_text value =
    and_any IsFull (as_str value) _ (λ bytes. kept bytes (is_text bytes) (is_full bytes) (full_bytes bytes))

fronted : {T : Type 0} (P : T → Type 0) (first : Option T) (rest : Option (List T))
    → SomeIs P first → SomeIs (All P) rest → SomeIs (All P) (onto first rest)
unfolding SomeIs
fronted P None rest here more = tt
fronted P (Some x) None here more = tt
fronted P (Some x) (Some xs) here more = All-cons P x xs here more

whole_items : {T : Type 0} (P : T → Type 0) (read : Data → Option T) → ((value : Data) → SomeIs P (read value))
    → (values : Items) → SomeIs (All P) (each_of read values)
unfolding SomeIs
whole_items P read one no_items = All-nil P
whole_items P read one (item value values) =
    fronted P (read value) (each_of read values) (one value) (whole_items P read one values)

whole_list : {T : Type 0} (P : T → Type 0) (read : Data → Option T) → ((value : Data) → SomeIs P (read value))
    → (value : Data) → SomeIs (All P) (list_of read value)
whole_list P read one value = and_any (All P) (as_array value) (each_of read) (whole_items P read one)

abbrev AreSuffixes : List (List ℕ) → Type 0
AreSuffixes texts = (0 < length texts) × AreFull texts

some_texts : (texts : List (List ℕ)) → AreFull texts → SomeIs AreSuffixes (unless_none texts)
unfolding SomeIs
some_texts [] full = tt
some_texts (text ∷ texts) full = (omega arith, full)

whole_suffixes : (value : Data) → SomeIs AreSuffixes (some_full_texts value)
whole_suffixes value =
    and_some AreSuffixes AreFull (full_texts value) unless_none (whole_list IsFull full_text whole_text value) some_texts

abbrev IsNamed : Pair → Type 0
IsNamed pair = 0 < length pair.name

paired : (name value : Option (List ℕ)) → SomeIs IsFull name → SomeIs IsNamed (pair_from name value)
unfolding SomeIs
paired None value full = tt
paired (Some name) None full = tt
paired (Some name) (Some value) full = full

whole_pair_in : (values : Items) → SomeIs IsNamed (pair_in values)
unfolding SomeIs
whole_pair_in no_items = tt
whole_pair_in (item name no_items) = tt
whole_pair_in (item name (item value no_items)) = paired (full_text name) (any_text value) (whole_text name)
whole_pair_in (item name (item value (item other more))) = tt

whole_pairs : (value : Data) → SomeIs AreNamed (pairs_of value)
whole_pairs value = whole_list IsNamed pair_of (λ one. and_any IsNamed (as_array one) pair_in whole_pair_in) value

-- ---- keys

whole_optional : {T : Type 0} (P : T → Type 0) (absent : T) (read : Data → Option T) → P absent
    → ((value : Data) → SomeIs P (read value)) → (value : Option Data) → SomeIs P (optional absent read value)
unfolding SomeIs
whole_optional P absent read none one None = none
whole_optional P absent read none one (Some value) = one value

whole_good : {T : Type 0} (P : T → Type 0) (key : List ℕ) (value : Option T) → SomeIs P value → OkIs P (good key value)
unfolding SomeIs OkIs
whole_good P key None holds = tt
whole_good P key (Some x) holds = holds

whole_may : {T : Type 0} (P : T → Type 0) (key : List ℕ) (absent : T) (read : Data → Option T) → P absent
    → ((value : Data) → SomeIs P (read value)) → (value : Option Data) → OkIs P (may_have key absent read value)
whole_may P key absent read none one value =
    whole_good P key (optional absent read value) (whole_optional P absent read none one value)

whole_must : {T : Type 0} (P : T → Type 0) (key : List ℕ) (read : Data → Option T)
    → ((value : Data) → SomeIs P (read value)) → (value : Option Data) → OkIs P (must_have key read value)
unfolding OkIs
whole_must P key read one None = tt
whole_must P key read one (Some value) = whole_good P key (read value) (one value)

abbrev HasNames : Part → Type 0
HasNames part = AreNamed part.substitutions

made_part : (path : Option (List ℕ)) (features : Option (List (List ℕ))) (pairs : Option (List Pair))
    → SomeIs AreNamed pairs → SomeIs HasNames (part_from path features pairs)
unfolding SomeIs
made_part None features pairs named = tt
made_part (Some path) None pairs named = tt
made_part (Some path) (Some features) None named = tt
made_part (Some path) (Some features) (Some pairs) named = named

unless : (key : Option (List ℕ)) (part : Option Part) → SomeIs HasNames part → SomeIs HasNames (unless_other key part)
unfolding SomeIs
unless None part named = named
unless (Some key) part named = tt

no_pairs : AreNamed []
no_pairs = All-nil IsNamed

whole_part_in : (table : Members) → SomeIs HasNames (part_in table)
whole_part_in table =
    let path = option_and_then inner_path (get_member (codes "path") table) in
    let features = optional_texts (codes "features") table in
    let pairs = optional_pairs (codes "substitutions") table in
    unless (other_key part_keys table) (part_from path features pairs) (made_part path features pairs
    (whole_optional AreNamed [] pairs_of no_pairs whole_pairs (get_member (codes "substitutions") table)))

whole_parts : (value : Data) → SomeIs (All HasNames) (parts_of value)
whole_parts value = whole_list HasNames part_of (λ one. and_any HasNames (as_table one) part_in whole_part_in) value

no_parts : All HasNames []
no_parts = All-nil HasNames

whole_parts_at : (parts : Bool) (value : Option Data) → OkIs (All HasNames) (parts_at parts value)
unfolding OkIs
whole_parts_at false value = no_parts
whole_parts_at true value = whole_may (All HasNames) (codes "parts") [] parts_of no_parts whole_parts value

-- ---- suites

whole_end : (suite : Suite) → IsWhole suite → OkIs IsWhole (Ok suite)
unfolding OkIs
whole_end suite whole = whole

whole_suite : (table : Members) → OkIs IsWhole (suite_of table)
whole_suite table =
    skip IsWhole (version_of (get_member (codes "version") table)) _ (λ parts.
    skip IsWhole (known (other_key (keys_of parts) table)) _ (λ only.
    skip IsWhole (name_at table) _ (λ name.
    and_ok IsWhole AreSuffixes (suffixes_at table) _
    (whole_must AreSuffixes (codes "suffixes") some_full_texts whole_suffixes (get_member (codes "suffixes") table))
    (λ suffixes full.
    skip IsWhole (texts_at (codes "excludes") table) _ (λ excludes.
    skip IsWhole (texts_at (codes "features") table) _ (λ features.
    skip IsWhole (exec_root_at table) _ (λ exec_root.
    and_ok IsWhole AreNamed (pairs_at (codes "substitutions") table) _
    (whole_may AreNamed (codes "substitutions") [] pairs_of no_pairs whole_pairs (get_member (codes "substitutions") table))
    (λ pairs named.
    skip IsWhole (named_at (codes "tools") table) _ (λ tools.
    skip IsWhole (named_at (codes "environment") table) _ (λ environment.
    and_ok IsWhole (All HasNames) (parts_at parts (get_member (codes "parts") table)) _
    (whole_parts_at parts (get_member (codes "parts") table)) (λ inner parts_named.
    whole_end _ (record { some = full.0; full = full.1; named = named; parts_named = parts_named }))))))))))))

whole_document : (table : Option Members) → OkIs IsWhole (document_suite table)
unfolding OkIs
whole_document None = tt
whole_document (Some table) = whole_suite table

pub reading_is_whole : ReadingIsWhole
unfolding OkIs
reading_is_whole bytes suite e =
    let holds : OkIs IsWhole (suite_file bytes) = whole_document (if is_utf8 bytes then parse_document bytes else None) in
    rw e at holds
