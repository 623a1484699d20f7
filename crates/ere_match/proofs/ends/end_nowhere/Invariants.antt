use Rattle.ere_match.proofs.ends.end_nowhere.Given as goal

abbrev pub invariant-loop-turn : goal.invariant-loop-turn
invariant-loop-turn l = Unit {0}
