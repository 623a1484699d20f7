use Rattle.std.proofs.Common.{◌≡◌, drop}
use Rattle.std.specs.List.{list_any}
use Rattle.lit_dirs.specs.Tests.{holds_path}
use Rattle.lit_dirs.proofs.additions.is_held.Given as goal

abbrev pub invariant-loop-part : goal.invariant-loop-part
invariant-loop-part l =
    list_any (holds_path l.below) (drop l.part-index l.parts) ≡ list_any (holds_path l.below) l.parts
