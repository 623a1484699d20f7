-- A match that stands on the line that is asked for is the one that was found.
use Rattle.std.proofs.Common.{ℕ, Bool, true, false, cond, List, Result, Ok, Err, IfOk, ◌==◌}
use Rattle.check_group.specs.Lines.{newlines, on_next_line, on_same_line}
use Rattle.check_group.specs.declared.answer.Met.{Met}
use Rattle.check_group.specs.declared.fault.FaultKind.{FaultKind}

kept : (P : Met → Type 0) (test : Bool) (m : Met) (kind : FaultKind) → P m → IfOk (cond test (Ok m) (Err kind)) P
kept P true m kind holds = holds
kept P false m kind holds = tt

pub next_line_ok : (P : Met → Type 0) (text : List ℕ) (last : ℕ) (found : Result Met FaultKind) → IfOk found P
    → IfOk (on_next_line text last found) P
next_line_ok P text last (Ok m) holds = kept P (newlines text last m.span.from == 1) m _ holds
next_line_ok P text last (Err kind) holds = tt

pub same_line_ok : (P : Met → Type 0) (text : List ℕ) (last : ℕ) (found : Result Met FaultKind) → IfOk found P
    → IfOk (on_same_line text last found) P
same_line_ok P text last (Ok m) holds = kept P (newlines text last m.span.from == 0) m _ holds
same_line_ok P text last (Err kind) holds = tt
