use Rattle.std.proofs.Common.{ℕ, List, ◌++◌, drop, map}
use Rattle.ere_tree.specs.Tree.{cat, trees_of}
use Rattle.ere_tree.specs.View.{view}
use Rattle.pattern_hits.specs.Plain.{IsText}
use Rattle.pattern_hits.proofs.plain.all_text.Given as goal

abbrev pub invariant-loop-part : goal.invariant-loop-part
invariant-loop-part l =
    (rest : List ℕ) → IsText (cat (trees_of (map view (drop l.part-index l.parts)))) rest
    → IsText (cat (trees_of (map view l.parts))) (l.text ++ rest)
