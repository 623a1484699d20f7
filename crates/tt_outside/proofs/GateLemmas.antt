-- Crews that hold the same test back give the same, where the crews in them do.
use Rattle.std.proofs.Common.{◌⊎◌, ℕ, inl, inr}
use Rattle.tt_outside.specs.Gate.{GateGave}
use Rattle.tt_outside.specs.Gave.{Gave, SameGave}

pub gate_same : (one two : Gave) (held : ℕ) → SameGave one two → SameGave (GateGave one held) (GateGave two held)
gate_same one two held same test earlier request reply = (forth, back) where
  forth : GateGave one held test earlier request reply → GateGave two held test earlier request reply
  forth (inl given) = inl ((same test earlier request reply).0 given)
  forth (inr broken) = inr broken

  back : GateGave two held test earlier request reply → GateGave one held test earlier request reply
  back (inl given) = inl ((same test earlier request reply).1 given)
  back (inr broken) = inr broken
