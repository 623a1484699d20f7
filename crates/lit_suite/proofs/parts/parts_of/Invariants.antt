use Rattle.std.proofs.Common.{◌≡◌, drop}
use Rattle.toml.specs.View.{items_view, view}
use Rattle.lit_suite.specs.Parts.{part_of, parts_of}
use Rattle.lit_suite.specs.Values.{each_of}
use Rattle.lit_suite.proofs.ReadLemmas.{with_front}
use Rattle.lit_suite.proofs.parts.parts_of.Given as goal

abbrev pub invariant-loop-value : goal.invariant-loop-value
invariant-loop-value l =
    with_front l.parts (each_of part_of (items_view (drop l.value-index l.value-items))) ≡ parts_of (view l.fn.value)
