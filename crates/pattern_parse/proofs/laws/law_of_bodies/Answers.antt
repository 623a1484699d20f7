use Rattle.pattern_parse.proofs.CutLemmas.{one_cut}
use Rattle.pattern_parse.proofs.PieceLemmas.{pieces_are_one}
use Rattle.pattern_parse.proofs.laws.law_of_bodies.Goals as goal

pub returns : goal.returns
returns c = record { cut = one_cut; pieces = pieces_are_one }
