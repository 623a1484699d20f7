-- The texts of a test, from that of its file.
-- Shown: what the file's text is cut into, and what is made of the pieces, are the texts of the test's paths.
-- Idea: each part of a path stands behind a slash. The hard one is `its_name`, that a path is its directory and its name.
use Rattle.std.proofs.Common.{◌≡◌, ◌≢◌, ◌==◌, ◌||◌, ℕ, ◌-◌, Bool, true, false, cond, List, [], ◌∷◌, ◌++◌, length, take, codes, All, refl, sym, ap, ◌∙◌, arith, suc, append-nil, append_assoc}
use Rattle.std.specs.List.{flat_map, list_all, list_any}
use Rattle.std.proofs.Math.Seq.{take-length, take-suc}
use Rattle.std.proofs.lemmas.Grind.{flat_map-append}
use Rattle.std.proofs.lemmas.List.Folds.{list_all-append}
use Rattle.std.proofs.lemmas.Option.{unwrap_or-slice_get}
use Rattle.tt_outside.specs.TreeMap.{is_part}
use Rattle.lit_paths.specs.Paths.{Parts, cut, dir_of, inner_text_of, slashed, text_of}
use Rattle.lit_paths.proofs.LawLemmas.{path_in_text_of}
use Rattle.lit_paths.proofs.PartLemmas.{and_left, and_right, no_slash}
use Rattle.lit_suite.specs.declared.suite_file.Part.{Part}
use Rattle.lit_suite.specs.declared.suite_file.Suite.{Suite}
use Rattle.lit_dirs.specs.Tests.{features_of, holds_path, name_of, parts_over, substitutions_of, temp_of, temps_in}

-- ---- texts of paths

pub slashed_append : (one other : Parts) → slashed (one ++ other) ≡ slashed one ++ slashed other
slashed_append one other = flat_map-append (λ part. 47 ∷ part) one other

-- the text of a path that isn't `/`
text_slashed : (path : Parts) → path ≢ [] → text_of path ≡ slashed path
text_slashed [] some = absurd (some refl)
text_slashed (part ∷ path) some = refl

longer : (dir path : Parts) → path ≢ [] → dir ++ path ≢ []
longer [] path some none = some none
longer (part ∷ dir) path some none = absurd (cc)

-- the text of a name in a directory
pub name_slashed : (dir : Parts) (name : List ℕ) → text_of (dir ++ name ∷ []) ≡ slashed (dir ++ name ∷ [])
name_slashed dir name = text_slashed (dir ++ name ∷ []) (longer dir (name ∷ []) (λ none. absurd (cc)))

pub text_of_name : (dir : Parts) (name : List ℕ) → text_of (dir ++ name ∷ []) ≡ slashed dir ++ 47 ∷ name
text_of_name dir name =
    name_slashed dir name
    ∙ slashed_append dir (name ∷ []) ∙ ap (λ xs. slashed dir ++ 47 ∷ xs) (append-nil name)

pub temp_dir_text : (dir : Parts) (work : List ℕ) → work ≡ slashed dir
    → work ++ codes "/Output" ≡ text_of (temps_in dir)
temp_dir_text dir work is = ap (λ xs. xs ++ codes "/Output") is ∙ sym (text_of_name dir (codes "Output"))

pub temp_text : (dir : Parts) (work name : List ℕ) → work ≡ slashed dir
    → work ++ (codes "/Output/" ++ (name ++ codes ".tmp")) ≡ temp_of dir name
temp_text dir work name is =
    ap (λ xs. xs ++ (codes "/Output/" ++ (name ++ codes ".tmp"))) is
    ∙ sym (append_assoc (slashed dir) (codes "/Output") (47 ∷ (name ++ codes ".tmp")))
    ∙ ap (λ xs. xs ++ 47 ∷ (name ++ codes ".tmp")) (sym (text_of_name dir (codes "Output"))
    ∙ name_slashed dir (codes "Output"))
    ∙ sym (text_of_name (temps_in dir) (name ++ codes ".tmp"))

-- ---- the path of a file below a root

its_name : (path : Parts) → path ≢ [] → path ≡ dir_of path ++ name_of path ∷ []
its_name [] some = absurd (some refl)
its_name (part ∷ rest) some =
    let path = part ∷ rest in
    let n = length path - 1 in
    let all : take (suc n) path ≡ path =
    ap (λ k. take k path) (let e : suc n ≡ length path = omega arith in e) ∙ take-length path in
    sym all ∙ take-suc path n [] (omega arith)
    ∙ ap (λ name. take n path ++ name ∷ []) (sym (unwrap_or-slice_get path n []))

-- the text of the file is that of its directory, a slash and the name
pub file_text : (root below : Parts) (text : List ℕ) → text ≡ text_of (root ++ below) → below ≢ []
    → text ≡ (slashed root ++ slashed (dir_of below)) ++ 47 ∷ name_of below
file_text root below text is some =
    is ∙ text_slashed (root ++ below) (longer root below some) ∙ slashed_append root below
    ∙ ap (λ path. slashed root ++ slashed path) (its_name below some)
    ∙ ap (λ xs. slashed root ++ xs) (slashed_append (dir_of below) (name_of below ∷ [])
    ∙ ap (λ xs. slashed (dir_of below) ++ 47 ∷ xs) (append-nil (name_of below)))
    ∙ sym (append_assoc (slashed root) (slashed (dir_of below)) (47 ∷ name_of below))

-- behind the root stands the rest
pub below_text : (root below : Parts) (text : List ℕ) → text ≡ text_of (root ++ below) → below ≢ []
    → text ≡ slashed root ++ slashed below
below_text root below text is some =
    is ∙ text_slashed (root ++ below) (longer root below some) ∙ slashed_append root below

-- the name has no slash
pub name_whole : (below : Parts) → list_all is_part below ≡ true → below ≢ []
    → All (λ byte. (byte == 47) ≡ false) (name_of below)
name_whole below parts some =
    let last : list_all is_part (name_of below ∷ []) ≡ true =
    and_right (list_all is_part (dir_of below)) (list_all is_part (name_of below ∷ []))
    (sym (ap (list_all is_part) (its_name below some) ∙ list_all-append is_part (dir_of below) (name_of below ∷ []))
    ∙ parts) in
    no_slash (name_of below) (and_left (is_part (name_of below)) true last)

-- the rest is cut into its parts
pub cut_below : (below : Parts) → list_all is_part below ≡ true → below ≢ [] → cut (inner_text_of below) ≡ below
cut_below [] parts some = absurd (some refl)
cut_below (part ∷ path) parts some = path_in_text_of part path parts

-- ---- what parts of a suite add

parts_over_same : (parts : List Part) (one below : Parts) → (parts ≢ [] → one ≡ below)
    → parts_over parts one ≡ parts_over parts below
parts_over_same [] one below same = refl
parts_over_same (part ∷ parts) one below same = ap (parts_over (part ∷ parts)) (same (λ none. absurd (cc)))

pub same_features : (suite : Suite) (one below : Parts) (features : List (List ℕ))
    → (suite.parts ≢ [] → one ≡ below) → features ≡ features_of suite one → features ≡ features_of suite below
same_features suite one below features same is =
    is ∙ ap (λ parts. suite.features ++ flat_map (λ part. part.features) parts)
    (parts_over_same suite.parts one below same)

pub same_substitutions : (suite : Suite) (one below : Parts) → (suite.parts ≢ [] → one ≡ below)
    → substitutions_of suite one ≡ substitutions_of suite below
same_substitutions suite one below same =
    ap (λ parts. flat_map (λ part. part.substitutions) parts ++ suite.substitutions)
    (parts_over_same suite.parts one below same)

none_kept : (holds rest : Bool) (part : Part) (kept : List Part) → (holds || rest) ≡ false → (rest ≡ false → kept ≡ [])
    → cond holds (part ∷ kept) kept ≡ []
none_kept true rest part kept none next = absurd (cc)
none_kept false rest part kept none next = next none

none_over : (parts : List Part) (below : Parts) → list_any (holds_path below) parts ≡ false
    → parts_over parts below ≡ []
none_over [] below none = refl
none_over (part ∷ parts) below none =
    none_kept (holds_path below part) (list_any (holds_path below) parts) part (parts_over parts below) none
    (none_over parts below)

-- where no part holds a path, its suite's are all
pub own_features : (suite : Suite) (below : Parts) → list_any (holds_path below) suite.parts ≡ false
    → features_of suite below ≡ suite.features
own_features suite below none =
    ap (λ parts. suite.features ++ flat_map (λ part. part.features) parts) (none_over suite.parts below none)
    ∙ append-nil suite.features

pub own_substitutions : (suite : Suite) (below : Parts) → list_any (holds_path below) suite.parts ≡ false
    → substitutions_of suite below ≡ suite.substitutions
own_substitutions suite below none =
    ap (λ parts. flat_map (λ part. part.substitutions) parts ++ suite.substitutions) (none_over suite.parts below none)
