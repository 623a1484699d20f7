use Rattle.std.proofs.Common.{◌≡◌, ◌++◌, drop, filter, map, string_bytes}
use Rattle.tt_main.specs.Environment.{is_word}
use Rattle.tt_main.proofs.environment.words_among.Given as goal

abbrev pub invariant-loop-part : goal.invariant-loop-part
invariant-loop-part l =
    map string_bytes l.words.items ++ filter is_word (map (λ part. part.now) (drop l.part-index l.parts))
    ≡ filter is_word (map (λ part. part.now) l.parts)
