use Rattle.lit_find.proofs.Names.{◌≡◌, map, take, test_in}
use Rattle.lit_find.proofs.discovery.names_in.Given as goal

abbrev pub invariant-loop-file : goal.invariant-loop-file
invariant-loop-file l = l.names ≡ map (λ file. (test_in file).name) (take l.file-index l.files)
