-- Where a hit lies, whatever its groups hold.
use Rattle.std.specs.Prelude.{◌≡◌, ℕ, Option, Some, None, List, drop}
use Rattle.ere_tree.specs.Hit.{HasNoHit, TellsHit}
use Rattle.ere_tree.specs.Tree.{Tree}
use Rattle.ere_tree.specs.declared.hit.Cap.{Cap}
use Rattle.ere_tree.specs.declared.hit.Hit.{Hit}

-- the hit of the tree in the text from an offset on lies there
abbrev pub LiesAt : List ℕ → Tree → ℕ → ℕ → ℕ → Type 0
LiesAt text t from low high = (hit : Hit) × TellsHit text t from hit × (hit.from ≡ low) × (hit.to ≡ high)

-- the hit of the tree in the text from an offset on lies at the span, and without one there is no hit
abbrev pub FindsSpan : List ℕ → Tree → ℕ → Option Cap → Type 0
FindsSpan text t from None = HasNoHit (drop from text) t
FindsSpan text t from (Some span) = LiesAt text t from span.from span.to
