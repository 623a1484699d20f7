-- What a directory that was looked at is refused for is told before all tests were found.
-- By cases on what the definition computes of the directory's nodes.
use Rattle.std.proofs.Common.{ℕ, ◌+◌, nat_lt, Bool, true, false, cond, List, length, Option, Some, None, IfSome, Result, Ok, Err, subst}
use Rattle.std.specs.Prelude.{⊤}
use Rattle.lit_dirs.specs.Looks.{fault_in, python_in, python_or, reading_fault, suite_fault, suite_fault_in}
use Rattle.lit_dirs.specs.Suites.{suite_path}
use Rattle.lit_dirs.specs.declared.fault.DiscoverFault.{DiscoverFault}
use Rattle.lit_dirs.specs.declared.fault.DiscoverFault.TheVariants.{SuiteTooLarge, TooMany, TooManyItems, NoTests}
use Rattle.lit_paths.specs.Paths.{Parts}
use Rattle.lit_suite.specs.Suites.{suite_file}
use Rattle.lit_suite.specs.declared.suite_file.Suite.{Suite}
use Rattle.lit_suite.specs.declared.suite_file.SuiteFault.{SuiteFault}
use Rattle.lit_look.specs.Seen.{RefusesNext, count_items}
use Rattle.lit_look.specs.declared.seen.Looked.{Looked}
use Rattle.tt_outside.specs.TreeMap.{file_at}
use Rattle.tt_outside.specs.declared.tree.Node.{Node}

-- a fault of a word or a directory, and not of how many tests there are
abbrev pub IsEarly : DiscoverFault → Type 0
IsEarly TooMany = ⊥
IsEarly NoTests = ⊥
IsEarly fault = ⊤

of_size : (path : List ℕ) (large : Bool) (read : Result Suite SuiteFault)
    → IfSome (cond large (Some (SuiteTooLarge path)) (reading_fault path read)) IsEarly
of_size path true read = tt
of_size path false (Ok suite) = tt
of_size path false (Err why) = tt

of_file : (path : List ℕ) (bytes : Option (List ℕ)) → IfSome (suite_fault path bytes) IsEarly
of_file path None = tt
of_file path (Some bytes) = of_size path (nat_lt 65536 (length bytes)) (suite_file bytes)

of_python : (dir : Parts) (found : Option (List ℕ)) (later : Option DiscoverFault) → IfSome later IsEarly
    → IfSome (python_or dir found later) IsEarly
of_python dir (Some name) later next = tt
of_python dir None later next = next

of_count : (nodes : List Node) (dir : Parts) (many : Bool)
    → IfSome (cond many (Some TooManyItems) (fault_in nodes dir)) IsEarly
of_count nodes dir true = tt
of_count nodes dir false =
    of_python dir (python_in nodes dir) (suite_fault_in nodes dir)
    (of_file (suite_path dir) (file_at nodes (suite_path dir)))

pub early_fault : (nodes : List Node) (seen : List Looked) (dir : Parts) (fault : DiscoverFault)
    → RefusesNext nodes seen dir fault → IsEarly fault
early_fault nodes seen dir fault refuses =
    subst (λ o. IfSome o IsEarly) refuses.told
    (of_count nodes dir (nat_lt 1000000 (count_items seen + refuses.count)))
