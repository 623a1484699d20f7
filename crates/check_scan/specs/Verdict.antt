-- The verdict of directives on an input.
-- After LLVM Command Guide, FileCheck, CHECK-LABEL and --enable-var-scope. Own rules: labels are sought one behind the other
-- in the whole rest of the text, and a label that isn't found ends the scan.
use Rattle.std.specs.Prelude.{ℕ, Bool, true, false, if◌then◌else◌, List, [], ◌∷◌, ◌++◌, take, Result, Ok, Err}
use Rattle.check_group.specs.Changes.{Change, Variables, changed, forgets}
use Rattle.check_group.specs.Matches.{looked}
use Rattle.check_group.specs.declared.answer.Met.{Met}
use Rattle.check_group.specs.declared.directive.Check.{Check}
use Rattle.check_group.specs.declared.fault.FaultKind.{FaultKind}
use Rattle.check_group.specs.declared.fault.FaultKind.TheVariants.{NotFound}
use Rattle.check_scan.specs.Block.{End, after, block}
use Rattle.check_scan.specs.Blocks.{Blocks, blocks_of, labelled, last}
use Rattle.check_scan.specs.Parts.{Part, parts_of}

-- what the start of a block changes
abbrev pub beginning : Bool → List Change
beginning forget = if forget then forgets ∷ [] else []

-- a block from its start on, at a place
abbrev pub run : List ℕ → List Check → Bool → List Part → ℕ → Variables → End
run text always forget parts place vars =
    after (beginning forget) (block text always parts place [] (changed vars (beginning forget)))

-- a label that isn't found is a fault at the place, and nothing behind it runs
abbrev pub labelled_by : Check → ℕ → Result Met FaultKind → (ℕ → End) → End
labelled_by label place (Ok m) found = found m.span.to
labelled_by label place (Err kind) found =
    record { faults = record { directive = label.number; kind = NotFound place 0 } ∷ []; changes = [] }

-- what follows a block goes on with the variables that it left
abbrev pub followed : End → Variables → (Variables → End) → End
followed end vars rest = record {
  faults = end.faults ++ (rest (changed vars end.changes)).faults;
  changes = end.changes ++ (rest (changed vars end.changes)).changes;
}

-- a block that a label ends, and what follows it from that label's end
abbrev pub up_to_label : List ℕ → List Check → Bool → List Check → Check → ℕ → Variables → (ℕ → Variables → End) → End
up_to_label text always forget checks label place vars rest =
    labelled_by label place (looked text vars label 0 place)
    (λ to. followed (run (take to text) always forget (parts_of false checks) place vars) vars (rest to))

-- what blocks come to from a place on: the first one begins so, and the others as the scope says
unfoldable pub verdict : List ℕ → List Check → Bool → Bool → Blocks → ℕ → Variables → End
verdict text always scope forget (last checks) place vars = run text always forget (parts_of true checks) place vars
verdict text always scope forget (labelled checks label rest) place vars =
    up_to_label text always forget checks label place vars (verdict text always scope scope rest)

-- the verdict of directives on a text; `always` are the implicit NOTs, and `scope` is that of --enable-var-scope
abbrev pub scan : List Check → List Check → Bool → List ℕ → Variables → End
scan checks always scope text vars = verdict text always scope false (blocks_of checks) 0 vars
