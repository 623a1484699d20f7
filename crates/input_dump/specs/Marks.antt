-- The marks of what is found amiss.
-- After LLVM Command Guide, FileCheck, --dump-input: an input is annotated with what wasn't found, or is found where it shouldn't be.
-- The signs and texts are own.
use Rattle.std.specs.Prelude.{ℕ, List, [], ◌∷◌, ◌++◌, codes, Option, None, Some}
use Rattle.std.specs.List.{flat_map, slice_index_or}
use Rattle.check_group.specs.declared.fault.Fault.{Fault}
use Rattle.check_group.specs.declared.fault.FaultKind.{FaultKind}
use Rattle.check_group.specs.declared.fault.FaultKind.TheVariants.{NotFound, WrongLine, NotSameLine, Excluded, Undefined, Range, ZeroDivisor, Unreadable}
use Rattle.input_dump.specs.declared.marking.Mark.{Mark}

-- a mark with a label and what is told
abbrev pub spoken : ℕ → ℕ → List ℕ → List ℕ → Option Mark
spoken at sign label what = Some (record { at = at; sign = sign; text = label ++ what })

-- the mark of a fault whose directive has a label
abbrev pub mark_of : FaultKind → List ℕ → Option Mark
mark_of (NotFound from done) label = spoken from 88 label (codes ": not found")
mark_of (WrongLine found last newlines) label = spoken found 33 label (codes ": wrong line")
mark_of (NotSameLine found last) label = spoken found 33 label (codes ": wrong line")
mark_of (Excluded found) label = spoken found 33 label (codes ": excluded")
mark_of (Unreadable found) label = spoken found 33 label (codes ": number out of range")
mark_of (Undefined names) label = None
mark_of Range label = None
mark_of ZeroDivisor label = None

-- a mark, if there is one
abbrev pub one_or_none : Option Mark → List Mark
one_or_none None = []
one_or_none (Some mark) = mark ∷ []

-- the marks of faults, in order; each directive has a label by its number
abbrev pub marks : List Fault → List (List ℕ) → List Mark
marks faults labels = flat_map (λ fault. one_or_none (mark_of fault.kind (slice_index_or labels fault.directive []))) faults
