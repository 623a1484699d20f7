use Rattle.std.proofs.Common.{◌≡◌, ◌+◌, ◌*◌, length, ap, ◌∙◌, arith}
use Rattle.make_checks.proofs.SizeLemmas.{made_at_most, times}
use Rattle.make_checks.proofs.room.is_roomy.Goals as goal

pub returns-in-Some : goal.returns-in-Some
returns-in-Some c is =
    let lead = c.args.lead.now in
    let lines = c.args.lines.now in
    let words : c.in-Some.words ≡ (length lead + 23) * (times 10 lines + 3) =
    c.in-Some.ensures.1 ∙ ap (λ n. (length lead + 23) * (n + 3)) c.count_of-newlines.ensures.value in
    omega (
      arith,
      made_at_most lead lines,
      c.count_of-brackets.ensures.value,
      c.count_of-braces.ensures.value,
      words,
      c.both_fit.ensures.0 is,
    )
