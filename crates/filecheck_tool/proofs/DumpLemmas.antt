-- The labels and the marks of an annotated input.
-- Shown: each directive has a label, and marks of faults that lie in a text stand in it. By cases on the kinds of faults; the hard one
-- is `marks_lie`.
use Rattle.std.proofs.Common.{◌≡◌, ◌<◌, ◌≤◌, ℕ, ◌+◌, Bool, true, false, if◌then◌else◌, List, [], ◌∷◌, ◌++◌, All, IfSome, Option, Some, None, length, length-append, map, arith, refl, sym, subst}
use Rattle.std.proofs.lemmas.List.{length-map}
use Rattle.std.proofs.lemmas.List.Elements.{All-from_recursion, recursion_from_All}
use Rattle.std.specs.List.{AllByRecursion, slice_index_or}
use Rattle.check_group.specs.Lies.{FaultLies, OffsetsLie}
use Rattle.check_group.specs.declared.fault.Fault.{Fault}
use Rattle.check_group.specs.declared.fault.FaultKind.{FaultKind}
use Rattle.check_group.specs.declared.fault.FaultKind.TheVariants.{NotFound, WrongLine, NotSameLine, Excluded, Undefined, Range, ZeroDivisor, Unreadable}
use Rattle.filecheck_tool.specs.CheckFile.{IsNumber}
use Rattle.filecheck_tool.specs.Dump.{implicit_labels, is_due, labels_of, line_label, marks_due}
use Rattle.filecheck_tool.specs.declared.check_file.CheckFile.{CheckFile}
use Rattle.input_dump.specs.Marks.{mark_of, marks, one_or_none}
use Rattle.input_dump.specs.declared.marking.Mark.{Mark}

implicit_length : (number : ℕ) (bodies : List (List ℕ)) → length (implicit_labels number bodies) ≡ length bodies
implicit_length number [] = refl
implicit_length number (body ∷ bodies) = omega (arith, implicit_length (number + 1) bodies)

-- each directive has a label
pub labels_length : (file : CheckFile) → length (labels_of file) ≡ length file.directives + length file.asked.implicit
labels_length file =
    let lines = length-map file.directives (line_label file) in
    let implicit = file.asked.implicit in
    omega (arith, length-append (map (line_label file) file.directives) (implicit_labels 1 implicit), lines, implicit_length 1 implicit)

pub all_labelled : (file : CheckFile) (labels : List (List ℕ)) (faults : List Fault) → labels ≡ labels_of file
    → All (λ fault. IsNumber file fault.directive) faults → All (λ fault. fault.directive < length labels) faults
all_labelled file labels faults are numbers =
    subst (λ all. All (λ fault. fault.directive < length all) faults) (sym are)
    (subst (λ n. All (λ fault. fault.directive < n) faults) (sym (labels_length file)) numbers)

-- ---- faults that lie in a text

each_number : (IsOne : ℕ → Type 0) (size : ℕ) (faults : List Fault) → AllByRecursion (FaultLies IsOne size) faults
    → AllByRecursion (λ (fault : Fault). IsOne fault.directive) faults
each_number IsOne size [] lie = lie
each_number IsOne size (fault ∷ faults) lie = (lie.0.0, each_number IsOne size faults lie.1)

pub numbers_of_faults : (IsOne : ℕ → Type 0) (size : ℕ) (faults : List Fault) → All (FaultLies IsOne size) faults
    → All (λ fault. IsOne fault.directive) faults
numbers_of_faults IsOne size faults lie =
    All-from_recursion (λ fault. IsOne fault.directive) faults
    (each_number IsOne size faults (recursion_from_All (FaultLies IsOne size) faults lie))

abbrev StandIn : ℕ → List Mark → Type 0
StandIn size all = AllByRecursion (λ (mark : Mark). mark.at ≤ size) all

mark_lies : (kind : FaultKind) (label : List ℕ) (size : ℕ) (rest : List Mark) → OffsetsLie size kind → StandIn size rest
    → StandIn size (one_or_none (mark_of kind label) ++ rest)
mark_lies (NotFound from done) label size rest lie each = (lie, each)
mark_lies (WrongLine found last newlines) label size rest lie each = (lie.0, each)
mark_lies (NotSameLine found last) label size rest lie each = (lie.0, each)
mark_lies (Excluded found) label size rest lie each = (lie, each)
mark_lies (Unreadable found) label size rest lie each = (lie, each)
mark_lies (Undefined names) label size rest lie each = each
mark_lies Range label size rest lie each = each
mark_lies ZeroDivisor label size rest lie each = each

marks_lie : (IsOne : ℕ → Type 0) (size : ℕ) (labels : List (List ℕ)) (faults : List Fault)
    → AllByRecursion (FaultLies IsOne size) faults → StandIn size (marks faults labels)
marks_lie IsOne size labels [] lie = tt
marks_lie IsOne size labels (fault ∷ faults) lie =
    mark_lies fault.kind (slice_index_or labels fault.directive []) size (marks faults labels) lie.0.1
    (marks_lie IsOne size labels faults lie.1)

marks_if : (due : Bool) (size : ℕ) (all : List Mark) → All (λ mark. mark.at ≤ size) all
    → IfSome (if due then Some all else None) (All (λ mark. mark.at ≤ size))
marks_if true size all within = within
marks_if false size all within = tt

-- the marks of an annotated input stand in its text
pub due_within : (file : CheckFile) (size : ℕ) (faults : List Fault) (due : Option (List Mark)) → due ≡ marks_due file faults
    → All (FaultLies (IsNumber file) size) faults → IfSome due (All (λ mark. mark.at ≤ size))
due_within file size faults due is lie =
    let IsOne = IsNumber file in
    let all = marks faults (labels_of file) in
    let each = marks_lie IsOne size (labels_of file) faults (recursion_from_All (FaultLies IsOne size) faults lie) in
    subst (λ due. IfSome due (All (λ mark. mark.at ≤ size))) (sym is)
    (marks_if (is_due file.asked.dump.when faults) size all (All-from_recursion (λ mark. mark.at ≤ size) all each))
