use Rattle.std.proofs.Common.{◌≡◌, ◌≤◌, length, map, take, drop}
use Rattle.std.specs.List.{AllByRecursion}
use Rattle.input_dump.specs.Dump.{line_at, mark_line}
use Rattle.input_dump.specs.Order.{AreAscending}
use Rattle.input_dump.proofs.order.lines_of.Given as goal

-- the lines so far; no mark that is left lies before the last one
abbrev pub invariant-loop-mark : goal.invariant-loop-mark
invariant-loop-mark l = record {
  within : l.from ≤ length l.text;
  lines : l.all.items ≡ map (λ mark. mark_line l.text mark.now) (take l.mark-index l.order);
  known : l.last ≡ line_at l.text l.from;
  later : AllByRecursion (λ at. l.from ≤ at) (map (λ mark. mark.now.at) (drop l.mark-index l.order));
  ascending : AreAscending (map (λ mark. mark.now.at) (drop l.mark-index l.order));
}
