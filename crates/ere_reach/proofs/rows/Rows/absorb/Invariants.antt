use Rattle.std.proofs.Common.{◌⊎◌}
use Rattle.ere_reach.specs.Rows.{AreSame, HasAt, HasState, KeepsDone}
use Rattle.ere_reach.proofs.rows.Rows.absorb.Given as goal

abbrev pub invariant-loop-row : goal.invariant-loop-row
invariant-loop-row l = record {
  join : AreSame (HasState l.self)
      (λ h p. HasState l.fn.self h p ⊎ HasAt (λ row. row.places.items) l.yielded h p);
  done : KeepsDone l.fn.self l.self;
}
