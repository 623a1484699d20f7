-- The lines of an input. Own rule: a line ends in a newline, and what stands behind the last one is none.
use Rattle.std.specs.Prelude.{◌≡◌, ℕ, ◌+◌, ◌≤◌, List, length, count_by}
use Rattle.std.specs.Io.KnownBytes.{Consumes, IsAtEnd}
use Rattle.tt_base.specs.Place.{is_newline}
use Rattle.tt_outside.specs.Faults.{Rose}
use Rattle.tt_outside.specs.Transfer.{TakesCount}
use Rattle.tt_run.specs.Run.{Source}
use Rattle.not_count.specs.declared.lines.Counted.{Counted}
use Rattle.not_count.specs.declared.lines.Counted.TheVariants.{Lines, TooLong, Failed}

-- how many lines end in these bytes
abbrev pub lines_of : List ℕ → ℕ
lines_of bytes = count_by is_newline bytes

-- counting the lines of a source, to its end, came to this: it had more bytes than the limit, or a read failed
abbrev pub IsCounted : Source → ℕ → Counted → Type 0
IsCounted s limit (Lines lines) =
    (bytes : List ℕ) × Consumes s.old s.new bytes × IsAtEnd s.new × (length bytes ≤ limit)
    × (lines ≡ lines_of bytes) × (s.now ≡ s.before)
IsCounted s limit TooLong = TakesCount s.old s.new (limit + 1) × (s.now ≡ s.before)
IsCounted s limit Failed = Rose s.before s.now × (s.steady → ⊥)
