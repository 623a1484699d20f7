use Rattle.std.proofs.Common.{◌≡◌, drop}
use Rattle.toml.specs.View.{items_view, view}
use Rattle.lit_suite.specs.Values.{each_of, pair_of, pairs_of}
use Rattle.lit_suite.proofs.ReadLemmas.{with_front}
use Rattle.lit_suite.proofs.values.pairs_of.Given as goal

abbrev pub invariant-loop-value : goal.invariant-loop-value
invariant-loop-value l =
    with_front l.pairs (each_of pair_of (items_view (drop l.value-index l.value-items))) ≡ pairs_of (view l.fn.value)
