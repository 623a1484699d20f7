-- What the slow program answers, in the words of the definitions.
use Rattle.std.specs.Prelude.{◌≡◌, ℕ, List, [], Option, Some, MatchOption, drop, ◌+◌, ◌<◌, ◌^◌}
use Rattle.std.specs.FinMap.{empty, get}
use Rattle.std.specs.List.{All, Any, Contains}
use Rattle.ere_tree.specs.Tree.{Tree}
use Rattle.ere_tree.specs.Captures.{Captures}
use Rattle.ere_tree.specs.Derivation.{Way, Derives}
use Rattle.ere_tree.specs.Hit.{IsHit, HasNoHit, TellsHit}
use Rattle.ere_tree.specs.Preference.{IsPreferred}
use Rattle.ere_tree.specs.declared.hit.Hit.{Hit}
use Rattle.ere_slow.specs.WayView.{way_of, captures_of}
use Rattle.ere_slow.specs.declared.slow.Derivation.{Derivation}

-- each of these values is a derivation of the tree, from the place i and with the captures c
abbrev pub AreDerivations : List ℕ → Tree → ℕ → Captures → List Derivation → Type 0
AreDerivations s t i c ds = All (λ d. Derives s t (way_of d.way) i d.to c (captures_of d.captures)) ds

-- each way in which the tree derives, from the place i and with the captures c, is that of one of these
abbrev pub AreAllDerivations : List ℕ → Tree → ℕ → Captures → List Derivation → Type 0
AreAllDerivations s t i c ds =
    (w : Way) (j : ℕ) (e : Captures) → Derives s t w i j c e → Any (λ d. way_of d.way ≡ w) ds

-- the first value's derivation is preferred to the second's
abbrev pub IsPreferredTo : Derivation → Derivation → Type 0
IsPreferredTo d best = IsPreferred (way_of d.way) d.to (way_of best.way) best.to

-- of derivations of one tree, from one place and with the same captures, none is preferred to this one
abbrev pub IsMostPreferred : List Derivation → Derivation → Type 0
IsMostPreferred ds best =
    Contains ds best
    × ((s : List ℕ) (t : Tree) (i : ℕ) (c : Captures) → AreDerivations s t i c ds
    → All (λ d. IsPreferredTo d best → ⊥) ds)

-- that one where there are any, and none where there are none
abbrev pub IsBestOf : List Derivation → Option Derivation → Type 0
IsBestOf ds best = MatchOption best (ds ≡ []) (IsMostPreferred ds)

-- the offsets of these captures, counted from `start` bytes before the slice, are numbers of the program
abbrev pub FitBehind : ℕ → Captures → Type 0
FitBehind start c = (n : ℕ) (p : ℕ × ℕ) → get c n ≡ Some p → (start + p.0 < 2 ^ 64) × (start + p.1 < 2 ^ 64)

-- no derivation of the tree begins at the place
abbrev pub DerivesNothing : List ℕ → Tree → ℕ → Type 0
DerivesNothing s t i = (w : Way) (j : ℕ) (c d : Captures) → Derives s t w i j c d → ⊥

-- no hit of the tree in the slice begins before the place
abbrev pub HasNoHitBefore : List ℕ → Tree → ℕ → Type 0
HasNoHitBefore s t place = (h k : ℕ) (v : Way) (d : Captures) → h < place → Derives s t v h k empty d → ⊥

-- the tree is found first in the slice at the place, as the derivation has it
abbrev pub ShowsHit : List ℕ → Tree → ℕ → Derivation → Type 0
ShowsHit s t place best = IsHit s t place best.to (captures_of best.captures)

-- the hit at the place, where it has one; else none begins up to it
abbrev pub DerivesFrom : List ℕ → Tree → ℕ → Option Derivation → Type 0
DerivesFrom s t place found = MatchOption found (HasNoHitBefore s t (place + 1)) (ShowsHit s t place)

-- the place of the hit and its derivation, where there is one
abbrev pub FindsDerived : List ℕ → Tree → Option (ℕ × Derivation) → Type 0
FindsDerived s t found = MatchOption found (HasNoHit s t) (λ hit. ShowsHit s t hit.0 hit.1)

-- a hit of the slice, told of each text in which the slice begins at `from`
abbrev pub TellsHitOf : List ℕ → Tree → ℕ → Hit → Type 0
TellsHitOf s t from hit = (text : List ℕ) → drop from text ≡ s → TellsHit text t from hit

-- the hit at the place of the slice that begins at `from`, told of the text; else none begins up to it
abbrev pub FindsHitAt : List ℕ → Tree → ℕ → ℕ → Option Hit → Type 0
FindsHitAt text t from place found =
    MatchOption found (HasNoHitBefore (drop from text) t (place + 1)) (TellsHit text t from)
