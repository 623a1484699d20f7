use Rattle.std.proofs.Common.{◌≡◌, Some, arith}
use Rattle.toml.specs.Data.{as_array}
use Rattle.toml.specs.View.{items_view, view}
use Rattle.lit_suite.proofs.ReadLemmas.{other_pair}
use Rattle.lit_suite.proofs.values.pair_of.Goals as goal
use Rattle.lit_suite.proofs.values.pair_of.Goals.{in_default-as_slice-via-then-as_slice-lt2, in_default-as_slice-via-else-as_slice-lt2+else-this-lt3}

pub returns-in_default-as_slice : goal.returns-in_default-as_slice
returns-in_default-as_slice c =
    let listed : Some (items_view c.as_slice.result.now) ≡ as_array (view c.args.value.now) =
    rw (c.as_slice.ensures.value) c.in-Some.ensures in
    other_pair _ c.as_slice.result.now listed (elim c.in_default-as_slice.branch [
      | in_default-as_slice-via-then-as_slice-lt2 w ↦ (λ two. grind arith)
      | in_default-as_slice-via-else-as_slice-lt2+else-this-lt3 w ↦ (λ two. grind arith)
    ])
