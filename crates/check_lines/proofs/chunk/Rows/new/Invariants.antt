use Rattle.std.proofs.Common.{◌≡◌, ◌<◌, ℕ, get_or, length}
use Rattle.check_lines.specs.Chunk.{IsRow}
use Rattle.check_lines.specs.declared.chunk.Row.{Row}
use Rattle.check_lines.proofs.chunk.Rows.new.Given as goal

abbrev pub invariant-loop-code : goal.invariant-loop-code
invariant-loop-code l = record {
  long : length l.rows ≡ 256;
  made : (code : ℕ) → code < l.code → (row : Row) → IsRow code (get_or l.rows code row);
}
