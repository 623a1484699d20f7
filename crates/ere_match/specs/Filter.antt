-- Where a hit may lie, as an automaton of an expression without references tells it.
-- Own rule: whatever an expression with references spans, the one in which they gave way to the expressions of their
-- groups spans. So a hit begins where that one's span does at the earliest, and from there doesn't go on beyond it.
use Rattle.std.specs.Prelude.{ℕ, ◌+◌, ◌<◌, ◌≤◌, Option, Some, None, IfSome, MatchOption, List, length, drop}
use Rattle.std.specs.FinMap.{empty}
use Rattle.ere_auto.specs.Seen.{State, IsFor}
use Rattle.ere_match.specs.Spans.{LiesAt}
use Rattle.ere_match.specs.declared.filter.Asked.{Asked}
use Rattle.ere_match.specs.declared.filter.Asked.TheVariants.{Groups, Span}
use Rattle.ere_relaxed.specs.Relaxed.{SpansAll}
use Rattle.ere_slow.specs.Slow.{HasNoHitBefore}
use Rattle.ere_tree.specs.Captures.{Captures}
use Rattle.ere_tree.specs.Derivation.{IsPart, Way, Derives}
use Rattle.ere_tree.specs.Hit.{HasNoHit, TellsHit}
use Rattle.ere_tree.specs.Tree.{Tree}
use Rattle.ere_tree.specs.declared.hit.Cap.{Cap}
use Rattle.ere_tree.specs.declared.hit.Hit.{Hit}

-- the automaton is that of an expression that spans whatever this one spans
pub record IsFilter (a : State) (t : Tree) : Type 0 where
  pub free : Tree
  pub built : IsFor a free
  pub spans : SpansAll t free

-- A hit of the tree doesn't begin before the span, and from the span's start doesn't end behind it. Where there is no
-- span, there is no hit.
abbrev pub MayLie : List ℕ → Tree → Option Cap → Type 0
MayLie s t None = HasNoHit s t
MayLie s t (Some span) =
    HasNoHitBefore s t span.from × IsPart s span.from span.to
    × ((k : ℕ) (v : Way) (d : Captures) → Derives s t v span.from k empty d → k ≤ span.to)

-- the automaton is a filter for whatever this tree spans all of
abbrev pub FiltersAll : State → Tree → Type 0
FiltersAll a free = (t : Tree) → SpansAll t free → IsFilter a t

-- where the first is a filter for a tree, the second is
abbrev pub StaysFilter : State → State → Type 0
StaysFilter a b = (t : Tree) → IsFilter a t → IsFilter b t

-- From the place on the tree derives nothing that begins before the span, and nothing that begins where it does and ends behind
-- it. Without a span it derives nothing there.
abbrev pub LiesFrom : List ℕ → Tree → ℕ → Option Cap → Type 0
LiesFrom s t place None = (h k : ℕ) (v : Way) (d : Captures) → place ≤ h → Derives s t v h k empty d → ⊥
LiesFrom s t place (Some span) =
    ((h k : ℕ) (v : Way) (d : Captures) → place ≤ h → h < span.from → Derives s t v h k empty d → ⊥)
    × IsPart s span.from span.to
    × ((k : ℕ) (v : Way) (d : Captures) → Derives s t v span.from k empty d → k ≤ span.to)

-- where the automaton is a filter for a tree, this is where a hit may lie from the place on
abbrev pub TellsFrom : State → List ℕ → ℕ → Option Cap → Type 0
TellsFrom a s place found = (t : Tree) → IsFilter a t → LiesFrom s t place found

-- where it is a filter, the span begins behind the place
abbrev pub LiesBehind : State → ℕ → Option Cap → Type 0
LiesBehind a place found = (t : Tree) → IsFilter a t → IfSome found (λ cap. place < cap.from)

-- where it is a filter, each byte of the slice and its end was counted at most once
abbrev pub CountsOnce : State → List ℕ → ℕ → ℕ → Type 0
CountsOnce a s old new = (t : Tree) → IsFilter a t → new ≤ old + length s + 1

-- the hit in the slice from `from` to the text's end that begins at a place of it, where there is none before that place
abbrev pub TellsHitAt : List ℕ → Tree → ℕ → ℕ → Option Hit → Type 0
TellsHitAt text t from place found =
    MatchOption found (HasNoHitBefore (drop from text) t (place + 1)) (TellsHit text t from)

-- what is told of the hit where this is asked
abbrev pub TellsAsked : Asked → List ℕ → Tree → ℕ → Hit → Type 0
TellsAsked Groups text t from told = TellsHit text t from told
TellsAsked Span text t from told = LiesAt text t from told.from told.to

-- the same of a search
abbrev pub FindsAsked : Asked → List ℕ → Tree → ℕ → Option Hit → Type 0
FindsAsked what text t from found = MatchOption found (HasNoHit (drop from text) t) (TellsAsked what text t from)

-- and of a try: the hit that begins at a place of the slice, where there is none before that place
abbrev pub TellsAskedAt : Asked → List ℕ → Tree → ℕ → ℕ → Option Hit → Type 0
TellsAskedAt what text t from place found =
    MatchOption found (HasNoHitBefore (drop from text) t (place + 1)) (TellsAsked what text t from)
