use Rattle.std.proofs.Common.{◌≡◌, map, drop}
use Rattle.lit_dirs.specs.Looks.{first_file}
use Rattle.lit_dirs.proofs.names.first_file.Given as goal

abbrev pub invariant-loop-name : goal.invariant-loop-name
invariant-loop-name l =
    first_file l.items (map (λ name. name.now) (drop l.name-index l.names)) ≡ first_file l.items (map (λ name. name.now) l.names)
