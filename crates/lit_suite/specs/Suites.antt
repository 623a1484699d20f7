-- What a suite file says, and the first fault of one.
-- Own rule: the version is judged first, then keys that nobody knows, the least in byte order, then each key in the order
-- of `suite_of`. A file of version 2 may have parts.
use Rattle.std.specs.Prelude.{ℕ, ℤ, pos, negsuc, ◌≡◌, ◌==◌, Bool, true, false, codes, if◌then◌else◌, List, [], ◌∷◌, Option, None, Some, Result, Ok, Err, ⊤}
use Rattle.std.specs.Option.{option_and_then}
use Rattle.std.specs.Str.{is_utf8}
use Rattle.toml.specs.Data.{Data, Members, as_integer, get_member}
use Rattle.toml.specs.Parse.{parse_document}
use Rattle.tt_outside.specs.declared.request.Pair.{Pair}
use Rattle.lit_suite.specs.declared.suite_file.Part.{Part}
use Rattle.lit_suite.specs.declared.suite_file.Suite.{Suite}
use Rattle.lit_suite.specs.declared.suite_file.SuiteFault.{SuiteFault}
use Rattle.lit_suite.specs.declared.suite_file.SuiteFault.TheVariants.{NotToml, MissingKey, BadVersion, UnknownKey, BadValue}
use Rattle.lit_suite.specs.declared.suite_file.SuiteFail.{SuiteFail}
use Rattle.lit_suite.specs.declared.suite_file.SuiteFail.TheVariants.{Bad, NoMemory}
use Rattle.lit_suite.specs.Parts.{optional, optional_pairs, optional_texts, other_key, parts_of}
use Rattle.lit_suite.specs.Values.{full_text, name_text, named_of, some_full_texts}

-- what is read behind a good value
abbrev pub and_read : {A B : Type 0} → Result A SuiteFault → (A → Result B SuiteFault) → Result B SuiteFault
and_read (Ok x) next = next x
and_read (Err fault) next = Err fault

abbrev pub good : {T : Type 0} → List ℕ → Option T → Result T SuiteFault
good key (Some x) = Ok x
good key None = Err (BadValue key)

-- the value of a key that must be there
abbrev pub must_have : {T : Type 0} → List ℕ → (Data → Option T) → Option Data → Result T SuiteFault
must_have key read None = Err (MissingKey key)
must_have key read (Some value) = good key (read value)

-- the value of a key that may be absent
abbrev pub may_have : {T : Type 0} → List ℕ → T → (Data → Option T) → Option Data → Result T SuiteFault
may_have key absent read value = good key (optional absent read value)

-- whether a version has parts
abbrev pub has_parts : Option ℤ → Result Bool SuiteFault
has_parts None = Err BadVersion
has_parts (Some (pos n)) = if n == 1 then Ok false else if n == 2 then Ok true else Err BadVersion
has_parts (Some (negsuc n)) = Err BadVersion

abbrev pub version_of : Option Data → Result Bool SuiteFault
version_of None = Err (MissingKey (codes "version"))
version_of (Some value) = has_parts (as_integer value)

abbrev pub keys_of : Bool → List (List ℕ)
keys_of parts =
    codes "version" ∷ codes "name" ∷ codes "suffixes" ∷ codes "excludes" ∷ codes "features" ∷ codes "exec_root"
    ∷ codes "substitutions" ∷ codes "tools" ∷ codes "environment" ∷ (if parts then codes "parts" ∷ [] else [])

abbrev pub known : Option (List ℕ) → Result (Unit {0}) SuiteFault
known None = Ok tt
known (Some key) = Err (UnknownKey key)

-- a path or none
abbrev pub maybe_text : Data → Option (Option (List ℕ))
maybe_text value = option_and_then (λ path. Some (Some path)) (full_text value)

abbrev pub parts_at : Bool → Option Data → Result (List Part) SuiteFault
parts_at false value = Ok []
parts_at true value = may_have (codes "parts") [] parts_of value

-- the suite's name
abbrev pub name_at : Members → Result (List ℕ) SuiteFault
name_at members = must_have (codes "name") name_text (get_member (codes "name") members)

-- how the names of its tests end
abbrev pub suffixes_at : Members → Result (List (List ℕ)) SuiteFault
suffixes_at members = must_have (codes "suffixes") some_full_texts (get_member (codes "suffixes") members)

-- the texts of a key that may be absent, its pairs, and its named texts
abbrev pub texts_at : List ℕ → Members → Result (List (List ℕ)) SuiteFault
texts_at key members = good key (optional_texts key members)

abbrev pub pairs_at : List ℕ → Members → Result (List Pair) SuiteFault
pairs_at key members = good key (optional_pairs key members)

abbrev pub named_at : List ℕ → Members → Result (List Pair) SuiteFault
named_at key members = may_have key [] named_of (get_member key members)

-- where the commands run, if it is said
abbrev pub exec_root_at : Members → Result (Option (List ℕ)) SuiteFault
exec_root_at members = may_have (codes "exec_root") None maybe_text (get_member (codes "exec_root") members)

-- the keys of a suite in the order in which they are judged
abbrev pub suite_of : Members → Result Suite SuiteFault
suite_of members =
    and_read (version_of (get_member (codes "version") members)) (λ parts.
    and_read (known (other_key (keys_of parts) members)) (λ _.
    and_read (name_at members) (λ name.
    and_read (suffixes_at members) (λ suffixes.
    and_read (texts_at (codes "excludes") members) (λ excludes.
    and_read (texts_at (codes "features") members) (λ features.
    and_read (exec_root_at members) (λ exec_root.
    and_read (pairs_at (codes "substitutions") members) (λ substitutions.
    and_read (named_at (codes "tools") members) (λ tools.
    and_read (named_at (codes "environment") members) (λ environment.
    and_read (parts_at parts (get_member (codes "parts") members)) (λ parts.
    Ok (record {
      name = name;
      suffixes = suffixes;
      excludes = excludes;
      features = features;
      exec_root = exec_root;
      substitutions = substitutions;
      tools = tools;
      environment = environment;
      parts = parts;
    }))))))))))))

abbrev pub document_suite : Option Members → Result Suite SuiteFault
document_suite None = Err NotToml
document_suite (Some members) = suite_of members

-- what a suite file reads as: bytes that are text, a document, and its keys
abbrev pub suite_file : List ℕ → Result Suite SuiteFault
suite_file bytes = document_suite (if is_utf8 bytes then parse_document bytes else None)

-- the failure is this fault, or want of memory
abbrev pub Tells : SuiteFail → SuiteFault → Type 0
Tells (Bad fault) due = fault ≡ due
Tells NoMemory due = ⊤

-- the answer is what is due, but for want of memory
abbrev pub Reads : {T : Type 0} → Result T SuiteFail → Result T SuiteFault → Type 0
Reads (Ok x) due = due ≡ Ok x
Reads (Err (Bad fault)) due = due ≡ Err fault
Reads (Err NoMemory) due = ⊤
