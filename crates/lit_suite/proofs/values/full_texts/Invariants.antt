use Rattle.std.proofs.Common.{◌≡◌, drop}
use Rattle.toml.specs.View.{items_view, view}
use Rattle.lit_suite.specs.Values.{each_of, full_text, full_texts}
use Rattle.lit_suite.proofs.ReadLemmas.{with_front}
use Rattle.lit_suite.proofs.values.full_texts.Given as goal

abbrev pub invariant-loop-value : goal.invariant-loop-value
invariant-loop-value l =
    with_front l.texts (each_of full_text (items_view (drop l.value-index l.value-items))) ≡ full_texts (view l.fn.value)
