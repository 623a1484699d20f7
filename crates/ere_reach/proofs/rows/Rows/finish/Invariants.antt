use Rattle.std.proofs.Common.{◌≡◌, ◌⊎◌, ◌≤◌, ℕ, length, get_or, take}
use Rattle.ere_reach.specs.Rows.{AreSame, HasAt, HasState, IsDone}
use Rattle.ere_reach.specs.declared.row.Row.{Row}
use Rattle.ere_reach.proofs.rows.Rows.finish.Given as goal

abbrev pub invariant-loop-index : goal.invariant-loop-index
invariant-loop-index l = record {
  long : length l.self.rows.items ≡ length l.fn.self.rows.items;
  rest : (k : ℕ) (d : Row) → l.index ≤ k → get_or l.self.rows.items k d ≡ get_or l.fn.self.rows.items k d;
  same : AreSame (HasState l.self) (HasState l.fn.self);
  done : AreSame (IsDone l.self)
      (λ h p. IsDone l.fn.self h p
      ⊎ HasAt (λ row. row.places.items) (take l.index l.fn.self.rows.items) h p);
}
