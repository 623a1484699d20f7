-- Answers of a reading: what was found, or the first fault.
use Rattle.std.specs.Prelude.{ℕ, ◌+◌, Option, Some, None, Result, Ok, Err}
use Rattle.ere_tree.specs.declared.fault.EreFault.{EreFault}
use Rattle.ere_tree.specs.declared.fault.EreKind.{EreKind}

-- a fault of this kind at an offset
abbrev pub fault : {A : Type 0} → ℕ → EreKind → Result A EreFault
fault at kind = Err (record { at = at; kind = kind })

-- what was found at an offset and goes on so, or the fault there, whose place counts from that offset
abbrev pub and_then : {A B : Type 0} → ℕ → Result A EreFault → (A → Result B EreFault) → Result B EreFault
and_then at (Ok found) go = go found
and_then at (Err refused) go = fault (at + refused.at) refused.kind

-- what was found, changed
abbrev pub map_ok : {A B : Type 0} → (A → B) → Result A EreFault → Result B EreFault
map_ok change (Ok a) = Ok (change a)
map_ok change (Err e) = Err e

-- a reading that goes on unless a token is refused at an offset
abbrev pub unless : {A : Type 0} → ℕ → Option EreKind → Result A EreFault → Result A EreFault
unless at (Some kind) read = fault at kind
unless at None read = read
