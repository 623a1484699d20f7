-- What the hands of a crew round another one leave.
-- Own rule: what the hands in them left, the last of these, with other numbers of requests.
use Rattle.std.specs.Prelude.{ℕ, List, [], ◌∷◌, reverse}
use Rattle.tt_outside.specs.declared.crew.Left.{Left}

-- what a hand left, with another number of requests
abbrev pub with_asked : Left → ℕ → Left
with_asked left asked = record { begun = left.begun; asked = asked; faults = left.faults }

-- the same of each, in order
abbrev pub each_with : List Left → List ℕ → List Left
each_with [] counts = []
each_with (left ∷ lefts) [] = []
each_with (left ∷ lefts) (asked ∷ counts) = with_asked left asked ∷ each_with lefts counts

-- the same of the last of them, as many as there are numbers
abbrev pub recounted : List Left → List ℕ → List Left
recounted lefts counts = reverse (each_with (reverse lefts) (reverse counts))
