-- A text that grows within a limit.
-- Own rule: a check file that is made has at most as many bytes as one that is read.
use Rattle.std.specs.Prelude.{◌≡◌, ◌<◌, ◌≤◌, ⊤, ℕ, List, length, Result, Ok, Err}
use Rattle.make_checks.specs.declared.fault.MakeFail.{MakeFail}
use Rattle.make_checks.specs.declared.fault.MakeFail.TheVariants.{Bad, NoMemory}
use Rattle.make_checks.specs.declared.fault.MakeFault.{MakeFault}
use Rattle.make_checks.specs.declared.fault.MakeFault.TheVariants.{TooLarge}

-- why a text wasn't made: it would pass the limit
abbrev pub IsRefused : List ℕ → MakeFail → Type 0
IsRefused text (Bad fault) = (fault ≡ TooLarge) × (16777216 < length text)
IsRefused text NoMemory = ⊤

-- a text that grows became this one, which is within the limit; or this one would pass it
abbrev pub Becomes : List ℕ → List ℕ → Result (Unit {0}) MakeFail → Type 0
Becomes text new (Ok done) = (new ≡ text) × (length new ≤ 16777216)
Becomes text new (Err fail) = IsRefused text fail

-- this was made, within the limit; or it would pass it
abbrev pub Makes : List ℕ → Result (List ℕ) MakeFail → Type 0
Makes text (Ok made) = (made ≡ text) × (length made ≤ 16777216)
Makes text (Err fail) = IsRefused text fail

-- an answer is this one, unless memory couldn't be had
abbrev pub IsAnswer : Result (List ℕ) MakeFault → Result (List ℕ) MakeFail → Type 0
IsAnswer answer (Ok made) = answer ≡ Ok made
IsAnswer answer (Err (Bad fault)) = answer ≡ Err fault
IsAnswer answer (Err NoMemory) = ⊤
