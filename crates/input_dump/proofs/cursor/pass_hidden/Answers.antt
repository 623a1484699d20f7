use Rattle.std.proofs.Common.{◌∙◌, ap, length, sym, arith}
use Rattle.input_dump.proofs.FollowLemmas.{all_hidden, ended_left}
use Rattle.input_dump.proofs.JumpLemmas.{hidden_behind}
use Rattle.input_dump.proofs.cursor.pass_hidden.Goals as goal

pub returns-else-next-len-clause-same : goal.returns-else-next-len-clause-same
returns-else-next-len-clause-same c =
    let s = c.args.subject.now in
    let k = c.args.cursor.now in
    ended_left s k c.requires.subject c.requires.follows c.requires.no_mark
    ∙ sym (all_hidden s k c.requires.subject c.requires.follows c.requires.no_mark c.requires.hidden
    (hidden_behind s c.requires.subject k c.passed_on-next.result c.requires.follows c.if-subject.false
    (omega (arith, c.if-next-len.false, c.len.ensures)) c.passed_on-next.ensures.same))
