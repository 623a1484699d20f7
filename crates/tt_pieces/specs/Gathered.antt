-- Memory to write to. Own rule: it tells what it holds.
use Rattle.std.specs.Prelude.{ℕ, List, Option, Some}
use Rattle.tt_pieces.specs.declared.gathered.Gathered.{Gathered}

abbrev pub gathered_in : Gathered → Option (List ℕ)
gathered_in sink = Some sink.bytes

abbrev pub faults_of : Gathered → ℕ
faults_of sink = sink.faults
