-- The replies of a crew that holds a test back.
-- Own rule: those of the crew in it, and Broken for the program of the test that is held back.
use Rattle.std.specs.Prelude.{ℕ, ◌≡◌, ◌⊎◌, Bool, true, false}
use Rattle.tt_outside.specs.declared.request.Reply.TheVariants.{Broken}
use Rattle.tt_outside.specs.declared.request.Request.{Request}
use Rattle.tt_outside.specs.declared.request.Request.TheVariants.{ReadFile, MakeDir, WriteFile, Spawn}
use Rattle.tt_outside.specs.Gave.{Gave}

-- a program is to be run
abbrev pub is_spawn : Request → Bool
is_spawn (Spawn words dir env input limit) = true
is_spawn (ReadFile path limit) = false
is_spawn (MakeDir path) = false
is_spawn (WriteFile path bytes append) = false

abbrev pub GateGave : Gave → ℕ → Gave
GateGave gave held test earlier request reply =
    gave test earlier request reply ⊎ ((test ≡ held) × (is_spawn request ≡ true) × (reply ≡ Broken))
