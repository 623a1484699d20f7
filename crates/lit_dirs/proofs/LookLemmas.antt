-- What a directory lists tells what stands in it: its Python configurations, and its suite file.
-- A listing has under each part what stands at the path of that name. The hard one is `kind_listed`, by the law of
-- paths.
use Rattle.std.proofs.Common.{◌≡◌, ℕ, Bool, true, false, true≢false, cond, codes, inl, inr, List, [], ◌∷◌, ◌++◌, get_or, Option, Some, None, IfSome, Ok, Err, refl, sym, ap, ◌∙◌}
use Rattle.std.specs.List.{All, filter, find, list_all}
use Rattle.std.specs.Str.{bytes_eq}
use Rattle.std.proofs.lemmas.Bool.{cases_Bool, false≢true}
use Rattle.std.proofs.lemmas.List.Elements.{All-head, All-tail, Contains-get_or}
use Rattle.std.proofs.lemmas.List.Folds.{list_any-from_Any}
use Rattle.std.proofs.lemmas.List.Sums.{AllPass-from_list_all}
use Rattle.tt_outside.specs.declared.tree.Counted.{Counted}
use Rattle.tt_outside.specs.declared.tree.Node.{Node}
use Rattle.tt_outside.specs.declared.tree.Item.{Item}
use Rattle.tt_outside.specs.declared.tree.ItemKind.{ItemKind}
use Rattle.tt_outside.specs.declared.tree.ItemKind.TheVariants.{File, Dir, Other}
use Rattle.tt_outside.specs.TreeMap as map
use Rattle.tt_outside.specs.TreeMap.{GivesCount, Lists, bytes_of_kind, bytes_of_node, file_at, has_below, is_named, is_part, kind_at, kind_or, node_at}
use Rattle.lit_suite.specs.declared.suite_file.Suite.{Suite}
use Rattle.std.specs.Option.{option_map}
use Rattle.lit_suite.specs.Suites.{suite_file}
use Rattle.lit_paths.proofs.LawLemmas.{names_stand_below}
use Rattle.lit_paths.specs.Paths.{Parts, text_of}
use Rattle.lit_dirs.specs.Looks.{Counts, GivesReading, GivesSuite, Shows, config_names, fault_in, is_file, kind_of, python_in, python_names, python_of, python_or, suite_fault, suite_fault_in}
use Rattle.lit_dirs.specs.Suites.{suite_path}
use Rattle.lit_dirs.specs.declared.fault.DiscoverFault.{DiscoverFault}
use Rattle.lit_dirs.specs.declared.fault.DiscoverFault.TheVariants.{Missing, PythonConfig, NoSuite, BadSuite, SuiteTooLarge, TooMany, TooManyItems, NoTests, TreeFault, NoMemory}

-- ---- names

kind_listed : (nodes : List Node) (dir : Parts) (items : List Item) (name : List ℕ) → list_all is_part dir ≡ true
    → Lists nodes (text_of dir) items → is_part name ≡ true
    → map.kind_of items name ≡ kind_of nodes (dir ++ name ∷ [])
kind_listed nodes dir items name parts lists part =
    lists.kinds name ∙ ap (λ b. cond b (kind_at nodes (map.front_of (text_of dir) ++ name)) None) part
    ∙ ap (kind_at nodes) (sym (names_stand_below dir name parts))

find_once : (a b : Bool) (name : List ℕ) (rest other : Option (List ℕ)) → a ≡ b → rest ≡ other
    → cond a (Some name) rest ≡ cond b (Some name) other
find_once a b name rest other e h = ap (λ x. cond x (Some name) rest) e ∙ ap (cond b (Some name)) h

-- a listing shows what stands under the names that are looked for
pub lists_show : (nodes : List Node) (dir : Parts) (items : List Item) → list_all is_part dir ≡ true
    → Lists nodes (text_of dir) items → Shows nodes dir items
lists_show nodes dir items parts lists = λ k d within.
    kind_listed nodes dir items (get_or config_names k d) parts lists
    (AllPass-from_list_all is_part config_names refl k d within)

-- what is kept of a list has the first that passes, where all that pass are kept
find_kept : {A : Type 0} (p q : A → Bool) → ((x : A) → p x ≡ true → q x ≡ true) → (xs : List A)
    → find p (filter q xs) ≡ find p xs
find_kept p q keeps [] = refl
find_kept p q keeps (x ∷ xs) = by_test (q x) (keeps x) (find_kept p q keeps xs)
  where
    by_test : (kept : Bool) → (p x ≡ true → kept ≡ true) → find p (filter q xs) ≡ find p xs
        → find p (cond kept (x ∷ filter q xs) (filter q xs)) ≡ cond (p x) (Some x) (find p xs)
    by_test true here later = ap (cond (p x) (Some x)) later
    by_test false here later = elim (cases_Bool (p x)) [
      | inl passes ↦ absurd (false≢true (here passes))
      | inr fails ↦ later ∙ sym (ap (λ b. cond b (Some x) (find p xs)) fails)
    ]

-- so many items, and those of the names that are looked for
pub counts_and_shows : (nodes : List Node) (dir : Parts) (few : Counted) → list_all is_part dir ≡ true
    → GivesCount (Some nodes) (text_of dir) config_names (Ok few)
    → Counts nodes dir few.count × Shows nodes dir few.named
counts_and_shows nodes dir few parts (items, lists, is) = (
  record { items = items; lists = lists; all = ap (λ one. one.count) is },
  λ k d within.
      let name = get_or config_names k d in
      let (at, there, same) = Contains-get_or config_names k d within in
      ap (λ one. map.kind_of one.named name) is
      ∙ ap (option_map (λ item. item.kind)) (find_kept (λ item. bytes_eq item.name name) (is_named config_names)
      (λ item here. list_any-from_Any (λ other. bytes_eq item.name other) config_names (at, name, there, same, here)) items)
      ∙ lists_show nodes dir items parts lists k d within,
)

find_same : (p q : List ℕ → Bool) (names : List (List ℕ)) → All (λ name. p name ≡ q name) names
    → find p names ≡ find q names
find_same p q [] same = refl
find_same p q (name ∷ names) same =
    find_once (p name) (q name) name (find p names) (find q names) (All-head (λ one. p one ≡ q one) name names same)
    (find_same p q names (All-tail (λ one. p one ≡ q one) name names same))

abbrev suite_name : List ℕ
suite_name = codes "lit.suite.toml"

module _ (nodes : List Node) (dir : Parts) (items : List Item) (shows : Shows nodes dir items) where
  abbrev IsShown : List ℕ → Type 0
  IsShown name = map.kind_of items name ≡ kind_of nodes (dir ++ name ∷ [])

  suite_shown : map.kind_of items suite_name ≡ kind_of nodes (dir ++ suite_name ∷ [])
  suite_shown = All-head IsShown suite_name python_names shows

  python_shown : python_of items ≡ python_in nodes dir
  python_shown =
      find_same (λ name. is_file (map.kind_of items name)) (λ name. is_file (kind_of nodes (dir ++ name ∷ []))) python_names
      (λ k d within. ap is_file (All-tail IsShown suite_name python_names shows k d within))

-- ---- files

no_bytes_of_kind : (kind : ItemKind) (bytes : List ℕ) → is_file (Some kind) ≡ false → bytes_of_kind kind bytes ≡ None
no_bytes_of_kind File bytes h = absurd (true≢false h)
no_bytes_of_kind Dir bytes h = refl
no_bytes_of_kind Other bytes h = refl

no_bytes : (node : Option Node) (above : Bool) → is_file (kind_or node above) ≡ false → bytes_of_node node ≡ None
no_bytes None above h = refl
no_bytes (Some node) above h = no_bytes_of_kind node.kind node.bytes h

some_bytes_of_kind : (kind : ItemKind) (bytes : List ℕ) → is_file (Some kind) ≡ true
    → bytes_of_kind kind bytes ≡ None → ⊥
some_bytes_of_kind File bytes h none = absurd (cc)
some_bytes_of_kind Dir bytes h none = false≢true h
some_bytes_of_kind Other bytes h none = false≢true h

some_bytes : (node : Option Node) (above : Bool) → is_file (kind_or node above) ≡ true → bytes_of_node node ≡ None → ⊥
some_bytes None true h none = false≢true h
some_bytes None false h none = false≢true h
some_bytes (Some node) above h none = some_bytes_of_kind node.kind node.bytes h none

-- ---- answers

pub python_refuses : (told : Option (List Node)) (dir : Parts) (items : List Item) (name path : List ℕ)
    → IfSome told (λ nodes. Shows nodes dir items) → python_of items ≡ Some name
    → path ≡ text_of (dir ++ name ∷ []) → GivesSuite told dir (Err (PythonConfig path))
python_refuses None dir items name path shows found same = tt
python_refuses (Some nodes) dir items name path shows found same =
    ap (λ one. python_or dir one (suite_fault_in nodes dir)) (sym (python_shown nodes dir items shows) ∙ found)
    ∙ ap (λ x. Some (PythonConfig x)) (sym same)

no_python : (nodes : List Node) (dir : Parts) (items : List Item) → Shows nodes dir items → python_of items ≡ None
    → fault_in nodes dir ≡ suite_fault_in nodes dir
no_python nodes dir items shows none =
    ap (λ one. python_or dir one (suite_fault_in nodes dir)) (sym (python_shown nodes dir items shows) ∙ none)

pub no_suite_is_there : (told : Option (List Node)) (dir : Parts) (items : List Item)
    → IfSome told (λ nodes. Shows nodes dir items) → python_of items ≡ None
    → is_file (map.kind_of items suite_name) ≡ false → GivesSuite told dir (Ok None)
no_suite_is_there None dir items shows none file = tt
no_suite_is_there (Some nodes) dir items shows none file =
    let path = suite_path dir in
    let here = sym (ap is_file (suite_shown nodes dir items shows)) ∙ file in
    let bytes : file_at nodes path ≡ None = no_bytes (node_at nodes path) (has_below nodes path) here in
    (no_python nodes dir items shows none ∙ ap (suite_fault path) bytes, ap (option_map suite_file) bytes)

pub suite_is_read : (told : Option (List Node)) (dir : Parts) (items : List Item) (suite : Suite)
    → IfSome told (λ nodes. Shows nodes dir items) → python_of items ≡ None → GivesReading told dir (Ok suite) → GivesSuite told dir (Ok (Some suite))
suite_is_read None dir items suite shows none read = tt
suite_is_read (Some nodes) dir items suite shows none read =
    (no_python nodes dir items shows none ∙ read.0, read.1)

fault_is_told : (nodes : List Node) (dir : Parts) (items : List Item) (fault : DiscoverFault)
    → Shows nodes dir items → python_of items ≡ None → is_file (map.kind_of items suite_name) ≡ true
    → GivesReading (Some nodes) dir (Err fault) → GivesSuite (Some nodes) dir (Err fault)
fault_is_told nodes dir items (Missing path) shows none file read =
    absurd (some_bytes (node_at nodes (suite_path dir)) (has_below nodes (suite_path dir))
    (sym (ap is_file (suite_shown nodes dir items shows)) ∙ file) read)
fault_is_told nodes dir items (PythonConfig path) shows none file read =
    no_python nodes dir items shows none ∙ read
fault_is_told nodes dir items (NoSuite path) shows none file read =
    no_python nodes dir items shows none ∙ read
fault_is_told nodes dir items (BadSuite path why) shows none file read =
    no_python nodes dir items shows none ∙ read
fault_is_told nodes dir items (SuiteTooLarge path) shows none file read =
    no_python nodes dir items shows none ∙ read
fault_is_told nodes dir items TooMany shows none file read = no_python nodes dir items shows none ∙ read
fault_is_told nodes dir items TooManyItems shows none file read =
    no_python nodes dir items shows none ∙ read
fault_is_told nodes dir items NoTests shows none file read = no_python nodes dir items shows none ∙ read
fault_is_told nodes dir items TreeFault shows none file read = tt
fault_is_told nodes dir items NoMemory shows none file read = tt

pub suite_is_refused : (told : Option (List Node)) (dir : Parts) (items : List Item) (fault : DiscoverFault)
    → IfSome told (λ nodes. Shows nodes dir items) → python_of items ≡ None
    → is_file (map.kind_of items suite_name) ≡ true → GivesReading told dir (Err fault)
    → GivesSuite told dir (Err fault)
suite_is_refused None dir items fault shows none file read = tt
suite_is_refused (Some nodes) dir items fault shows none file read =
    fault_is_told nodes dir items fault shows none file read
