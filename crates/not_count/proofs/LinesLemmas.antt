-- Lines of bytes that come one behind the other.
use Rattle.std.proofs.Common.{◌≡◌, ◌+◌, ◌++◌, ◌∷◌, [], ℕ, List, arith}
use Rattle.std.proofs.lemmas.Grind.{common_steps}
use Rattle.not_count.specs.Lines.{lines_of}

pub lines-append : (front more : List ℕ) → lines_of (front ++ more) ≡ lines_of front + lines_of more
lines-append [] more = omega arith
lines-append (byte ∷ front) more = grind (arith, common_steps, lines-append front more)
