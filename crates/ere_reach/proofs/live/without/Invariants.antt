use Rattle.std.proofs.Common.{ℕ, ◌↔◌, ◌≢◌, take}
use Rattle.std.specs.List.{Contains}
use Rattle.ere_reach.proofs.live.without.Given as goal

abbrev pub invariant-loop-number : goal.invariant-loop-number
invariant-loop-number l =
    (n : ℕ) → Contains l.others.items n ↔ (Contains (take l.number-index l.numbers) n × (n ≢ l.own))
