use Rattle.std.proofs.Common.{◌≡◌}
use Rattle.toml.specs.View.{members_view, view}
use Rattle.lit_suite.specs.Values.{named_in, named_of}
use Rattle.lit_suite.proofs.ReadLemmas.{with_front}
use Rattle.lit_suite.proofs.values.named_of.Given as goal

abbrev pub invariant-loop-name : goal.invariant-loop-name
invariant-loop-name l = with_front l.pairs (named_in (members_view l.name-iterator)) ≡ named_of (view l.fn.value)
