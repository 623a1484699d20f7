-- How an expression is looked for.
-- Own rule: plain text is looked for as bytes, an expression without references by its automaton.
use Rattle.std.specs.Prelude.{◌≡◌, ◌-◌, ℕ, true, false, IfOk, List, length, Option, Result}
use Rattle.ere_auto.specs.Seen as seen
use Rattle.ere_auto.specs.State.{state_of}
use Rattle.ere_match.specs.Shown.{ShownForHit}
use Rattle.ere_tree.specs.Shape.{has_refs}
use Rattle.ere_tree.specs.Tree.{Tree}
use Rattle.ere_tree.specs.declared.hit.Hit.{Hit}
use Rattle.pattern_hits.specs.Plain.{IsText}
use Rattle.pattern_scan.specs.declared.means.Means.{Means}
use Rattle.pattern_scan.specs.declared.means.Means.TheVariants.{Text, Automaton, Derivations}

-- the means finds the hits of this tree
abbrev pub IsFor : Means → Tree → Type 0
IsFor (Text bytes) t = IsText t bytes
IsFor (Automaton search) t = (has_refs t ≡ false) × seen.IsFor (state_of search.automaton) t
IsFor Derivations t = has_refs t ≡ true

-- it shows each byte of the slice to an automaton, where its tree has no references
abbrev pub Shows : Means → Type 0
Shows (Text bytes) = ⊥
Shows (Automaton search) = Unit {0}
Shows Derivations = Unit {0}

-- where it does, so many bytes and ends of the slice were shown as the hit that was found takes
abbrev pub ShowsHit : {E : Type 0} → Means → Tree → List ℕ → ℕ → ℕ → Result (Option Hit) E → Type 0
ShowsHit means t text from shown result = Shows means → has_refs t ≡ false
    → IfOk result (λ found. ShownForHit (length text - from) from found shown)
