-- What reading the suite file of a directory gives.
use Rattle.std.proofs.Common.{◌≡◌, ℕ, ◌<◌, nat_lt, true, false, cond, List, length, Option, Some, None, Ok, Err, sym, ap, ◌∙◌, arith}
use Rattle.std.specs.Option.{option_map}
use Rattle.std.proofs.lemmas.Bool.Decides.{nat_tests}
use Rattle.tt_outside.specs.declared.tree.Node.{Node}
use Rattle.tt_outside.specs.declared.tree.TreeFault.TheVariants as tree
use Rattle.tt_outside.specs.TreeMap.{GivesText, file_at}
use Rattle.lit_suite.specs.declared.suite_file.Suite.{Suite}
use Rattle.lit_suite.specs.declared.suite_file.SuiteFault.{SuiteFault}
use Rattle.lit_suite.specs.Suites.{suite_file}
use Rattle.lit_paths.specs.Paths.{Parts}
use Rattle.lit_dirs.specs.Looks.{GivesReading, reading_fault, suite_fault}
use Rattle.lit_dirs.specs.Suites.{suite_path}
use Rattle.lit_dirs.specs.declared.fault.DiscoverFault.TheVariants.{Missing, BadSuite, SuiteTooLarge}

small : (n : ℕ) → ¬ (65536 < n) → nat_lt 65536 n ≡ false
small n h = grind (arith, nat_tests)

large : (n : ℕ) → 65536 < n → nat_lt 65536 n ≡ true
large n h = grind (arith, nat_tests)

-- the fault of a file's bytes that are within the limit is that of their reading
within : (nodes : List Node) (path bytes : List ℕ) → file_at nodes path ≡ Some bytes → ¬ (65536 < length bytes)
    → suite_fault path (file_at nodes path) ≡ reading_fault path (suite_file bytes)
within nodes path bytes is few =
    ap (suite_fault path) is
    ∙ ap (λ b. cond b (Some (SuiteTooLarge path)) (reading_fault path (suite_file bytes))) (small (length bytes) few)

pub read_well : (told : Option (List Node)) (dir : Parts) (bytes : List ℕ) (suite : Suite)
    → GivesText told (suite_path dir) 65536 (Ok bytes) → suite_file bytes ≡ Ok suite → GivesReading told dir (Ok suite)
read_well None dir bytes suite text is = tt
read_well (Some nodes) dir bytes suite text is = (
  within nodes (suite_path dir) bytes text.0 text.1 ∙ ap (reading_fault (suite_path dir)) is,
  ap (option_map suite_file) text.0 ∙ ap (λ x. Some x) is,
)

pub read_badly : (told : Option (List Node)) (dir : Parts) (bytes path : List ℕ) (fault : SuiteFault)
    → path ≡ suite_path dir → GivesText told (suite_path dir) 65536 (Ok bytes) → suite_file bytes ≡ Err fault
    → GivesReading told dir (Err (BadSuite path fault))
read_badly None dir bytes path fault same text is = tt
read_badly (Some nodes) dir bytes path fault same text is =
    within nodes (suite_path dir) bytes text.0 text.1 ∙ ap (reading_fault (suite_path dir)) is
    ∙ ap (λ p. Some (BadSuite p fault)) (sym same)

pub not_there : (told : Option (List Node)) (dir : Parts) (path : List ℕ)
    → GivesText told (suite_path dir) 65536 (Err tree.Missing) → GivesReading told dir (Err (Missing path))
not_there None dir path text = tt
not_there (Some nodes) dir path text = text

pub too_large : (told : Option (List Node)) (dir : Parts) (path : List ℕ) → path ≡ suite_path dir
    → GivesText told (suite_path dir) 65536 (Err tree.TooLarge) → GivesReading told dir (Err (SuiteTooLarge path))
too_large None dir path same text = tt
too_large (Some nodes) dir path same (bytes, is, many) =
    ap (suite_fault (suite_path dir)) is
    ∙ ap (λ b. cond b (Some (SuiteTooLarge (suite_path dir))) (reading_fault (suite_path dir) (suite_file bytes)))
    (large (length bytes) many)
    ∙ ap (λ p. Some (SuiteTooLarge p)) (sym same)
