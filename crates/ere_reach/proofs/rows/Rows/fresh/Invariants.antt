use Rattle.std.proofs.Common.{◌⊎◌, take, drop}
use Rattle.ere_reach.specs.Rows.{AreSame, HasAt, HasState}
use Rattle.ere_reach.proofs.rows.Rows.fresh.Given as goal

abbrev pub invariant-loop-row : goal.invariant-loop-row
invariant-loop-row l =
    AreSame (HasState l.fresh)
    (λ h p. ⊥ ⊎ HasAt (λ row. drop row.done row.places.items) (take l.row-index l.fn.self.rows.items) h p)
