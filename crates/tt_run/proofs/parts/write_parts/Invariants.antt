use Rattle.std.proofs.Common.{◌≡◌, ◌+◌, ◌≤◌, ◌++◌, ℕ, List, length, drop}
use Rattle.std.specs.Io.KnownBytes.{Appends}
use Rattle.tt_run.specs.Parts.{joined}
use Rattle.tt_run.proofs.parts.write_parts.Given as goal

-- what was written and the parts that are left are the message
abbrev pub invariant-loop-part : goal.invariant-loop-part
invariant-loop-part g l =
    (done : List ℕ) × (done ++ joined (drop l.part-index l.parts) ≡ joined l.parts)
    × Appends (g.E.Sink.held l.fn.err) (g.E.Sink.held l.err) done
    × (g.E.Sink.faults l.err ≡ g.E.Sink.faults l.fn.err)
    × (length (joined l.parts) ≤ g.E.Sink.room l.fn.err → g.E.Sink.room l.fn.err ≤ g.E.Sink.room l.err + length done)
