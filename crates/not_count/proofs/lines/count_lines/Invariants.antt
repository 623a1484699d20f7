use Rattle.std.proofs.Common.{◌≡◌, ◌≤◌, ◌+◌, ◌-◌, ◌^◌, ℕ, List, length}
use Rattle.std.specs.Io.KnownBytes.{Consumes}
use Rattle.not_count.specs.Lines.{lines_of}
use Rattle.not_count.proofs.lines.count_lines.Given as goal

-- these bytes were taken, and their lines counted
abbrev pub invariant-loop-count : goal.invariant-loop-count
invariant-loop-count g l =
    (bytes : List ℕ) × Consumes (g.I.Source.left l.fn.input) (g.I.Source.left l.input) bytes
    × (length bytes ≡ l.taken) × (l.taken ≤ 2 ^ 40) × (l.lines ≡ lines_of bytes) × (l.lines ≤ l.taken)
    × (g.I.Source.faults l.input ≡ g.I.Source.faults l.fn.input)
    × (g.I.Source.steady l.fn.input → g.I.Source.steady l.input)

abbrev pub decreases-loop-count : goal.decreases-loop-count
decreases-loop-count g l = 2 ^ 40 + 1 - l.taken
