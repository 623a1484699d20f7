-- Directives have the numbers of a check file, and so have faults.
-- Shown: what is compiled, a body that is refused and what a scan tells are each of a directive of the file. Idea: there are as many
-- bodies as numbers, and numbers go up one by one. The hard one is `compiled_of`.
use Rattle.std.proofs.Common.{◌≡◌, ◌<◌, ℕ, ◌+◌, List, [], ◌∷◌, ◌++◌, All, Ok, length, length-append, map, ap, arith, refl, subst}
use Rattle.std.proofs.lemmas.List.{length-map}
use Rattle.std.proofs.lemmas.List.Elements.{All-contains, All-from_recursion, All-map, recursion_from_All}
use Rattle.std.specs.List.{AllByRecursion, Contains}
use Rattle.check_group.specs.Lies.{FaultLies}
use Rattle.check_group.specs.declared.directive.Check.{Check}
use Rattle.check_group.specs.declared.fault.Fault.{Fault}
use Rattle.check_lines.specs.declared.directive.Directive.{Directive}
use Rattle.check_program.proofs.CompileLemmas.{checks_length}
use Rattle.check_program.proofs.ReadyLemmas.{numbers_below}
use Rattle.check_program.specs.Compiled.{Formats, IsRefused, bodies_of, body_of, implicit_bodies}
use Rattle.check_program.specs.Ready.{IsScannable}
use Rattle.check_program.specs.declared.program.CompileOpts.{CompileOpts}
use Rattle.check_program.specs.declared.program.Program.{Program as Patterns}
use Rattle.pattern_parse.specs.declared.fault.PatFault.{PatFault}
use Rattle.filecheck_tool.specs.CheckFile.{IsNumber}
use Rattle.filecheck_tool.specs.Program.{AreOf, ArePatterns, bodies, opts_of}
use Rattle.filecheck_tool.specs.declared.check_file.CheckFile.{CheckFile}

implicit_length : (line : ℕ) (implicit : List (List ℕ)) → length (implicit_bodies line implicit) ≡ length implicit
implicit_length line [] = refl
implicit_length line (bytes ∷ others) = omega (arith, implicit_length (line + 1) others)

-- there is a body for each directive, and for each that is implicit
bodies_length : (text : List ℕ) (directives : List Directive) (implicit : List (List ℕ))
    → length (bodies_of text directives implicit) ≡ length directives + length implicit
bodies_length text directives implicit =
    let lines = length-map directives (body_of text) in
    omega (arith, length-append (map (body_of text) directives) (implicit_bodies 1 implicit), lines, implicit_length 1 implicit)

-- what is compiled has the numbers of its check file
pub compiled_of : (file : CheckFile) (known : Formats) (patterns : Patterns) → ArePatterns file known (Ok patterns)
    → IsScannable patterns → AreOf file (patterns.checks ++ patterns.always)
compiled_of file known patterns (later, is) scannable =
    let checks = patterns.checks ++ patterns.always in
    let long = checks_length (opts_of file.asked) 0 known (bodies file) checks later is.compiled in
    let count : 0 + length checks ≡ length file.directives + length file.asked.implicit =
    omega (arith, long, bodies_length file.text file.directives file.asked.implicit) in
    All-map (IsNumber file) (λ (check : Check). check.number) checks
    (subst (λ n. All (λ (check : Check). check.number < n) checks) count (numbers_below 0 checks scannable.numbered))

-- and so has a body that is refused
pub refused_number : (opts : CompileOpts) (known later : Formats) (text : List ℕ) (directives : List Directive)
    (implicit : List (List ℕ)) (number : ℕ) (fault : PatFault)
    → IsRefused opts 0 known (bodies_of text directives implicit) number fault later
    → number < length directives + length implicit
refused_number opts known later text directives implicit number fault is =
    let count = bodies_length text directives implicit in
    let long : length (is.front ++ is.body ∷ is.rest) ≡ length (bodies_of text directives implicit) = ap length is.parts in
    omega (arith, count, long, length-append is.front (is.body ∷ is.rest), is.directive)

each_lies : (IsOne : ℕ → Type 0) (numbers : List ℕ) → All IsOne numbers → (to : ℕ) (faults : List Fault)
    → AllByRecursion (FaultLies (Contains numbers) to) faults → AllByRecursion (FaultLies IsOne to) faults
each_lies IsOne numbers each to [] lie = lie
each_lies IsOne numbers each to (fault ∷ faults) lie =
    ((All-contains IsOne numbers fault.directive each lie.0.0, lie.0.1), each_lies IsOne numbers each to faults lie.1)

-- faults of directives have their numbers
pub lies_of : (IsOne : ℕ → Type 0) (numbers : List ℕ) (to : ℕ) (faults : List Fault) → All IsOne numbers
    → All (FaultLies (Contains numbers) to) faults → All (FaultLies IsOne to) faults
lies_of IsOne numbers to faults each lie =
    All-from_recursion (FaultLies IsOne to) faults
    (each_lies IsOne numbers each to faults (recursion_from_All (FaultLies (Contains numbers) to) faults lie))
