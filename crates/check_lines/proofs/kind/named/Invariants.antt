use Rattle.std.proofs.Common.{◌≡◌, drop}
use Rattle.std.specs.List.{find}
use Rattle.tt_base.specs.Occurrence.{begins_with}
use Rattle.check_lines.specs.Kind.{named, suffix_of}
use Rattle.check_lines.proofs.kind.named.Given as goal

abbrev pub invariant-loop-kind : goal.invariant-loop-kind
invariant-loop-kind l = find (λ kind. begins_with l.text (suffix_of kind)) (drop l.kind-index l.kind-items) ≡ named l.text
