use Rattle.std.proofs.Common.{◌≡◌, None}
use Rattle.std.specs.List.{All}
use Rattle.ere_reach.proofs.memo.Memo.clear.Given as goal

abbrev pub invariant-loop : goal.invariant-loop
invariant-loop l = All (λ slot. slot ≡ None) l.slots.items
