-- What is told of many places at once at which hits may begin.
-- Own rule: none of what matches begins elsewhere, so where nothing begins at one of them a search goes on behind them all.
use Rattle.std.specs.Prelude.{ℕ, ◌+◌, ◌≤◌, Option, IfSome, List, drop}
use Rattle.ere_match.specs.Filter.{TellsAsked}
use Rattle.ere_match.specs.declared.filter.Asked.{Asked}
use Rattle.ere_match.specs.declared.filter.Tried.{Tried}
use Rattle.ere_match.specs.declared.filter.Tried.TheVariants.{Hit, Passed}
use Rattle.ere_slow.specs.Slow.{HasNoHitBefore}
use Rattle.ere_tree.specs.Tree.{Tree}

-- no hit begins up to a place that isn't before another one
abbrev pub Passes : List ℕ → Tree → ℕ → ℕ → Type 0
Passes s t place last = (place ≤ last) × HasNoHitBefore s t (last + 1)

abbrev pub PassesFrom : List ℕ → Tree → ℕ → Option ℕ → Type 0
PassesFrom s t place found = IfSome found (Passes s t place)

-- what is asked of the hit that begins at a place of the slice, or the last place from there on up to which none begins
abbrev pub TellsTried : Asked → List ℕ → Tree → ℕ → ℕ → Tried → Type 0
TellsTried what text t from place (Hit hit) = TellsAsked what text t from hit
TellsTried what text t from place (Passed last) = Passes (drop from text) t place last
