-- Messages in parts. Own rule: they are told one behind the other.
use Rattle.std.specs.Prelude.{ℕ, List, [], ◌∷◌, ◌++◌}
use denote.Bor.{Bor}

-- the parts of a message, joined
abbrev pub joined : List (Bor (List ℕ)) → List ℕ
joined [] = []
joined (part ∷ later) = part.now ++ joined later
