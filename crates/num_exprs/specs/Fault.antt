-- Answers of a reading: what was found and how many bytes it takes, or the first fault.
use Rattle.std.specs.Prelude.{ℕ, Result, Err}
use Rattle.num_exprs.specs.declared.fault.NumFault.{NumFault}
use Rattle.num_exprs.specs.declared.fault.NumKind.{NumKind}

-- a fault of this kind at an offset
abbrev pub fault : {A : Type 0} → NumKind → ℕ → Result A NumFault
fault kind at = Err (record { at = at; kind = kind })
