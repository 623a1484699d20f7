use Rattle.std.proofs.Common.{◌≡◌, ◌↔◌, drop}
use Rattle.tt_outside.proofs.equal.same_texts.Given as goal

abbrev pub invariant-loop-first : goal.invariant-loop-first
invariant-loop-first l = (drop l.first-index l.one ≡ l.rest) ↔ (l.fn.one ≡ l.fn.other)
