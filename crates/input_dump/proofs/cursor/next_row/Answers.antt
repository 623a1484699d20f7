use Rattle.std.proofs.Common.{◌≡◌, [], true≢false, sym, ◌∙◌}
use Rattle.input_dump.proofs.FollowLemmas.{nothing_left}
use Rattle.input_dump.specs.Follow.{left}
use Rattle.input_dump.proofs.cursor.next_row.Goals as goal

pub returns-clause-end : goal.returns-clause-end
returns-clause-end c =
    let kept = c.loop-cursor.invariant in
    let none : left c.args.subject.now c.loop-cursor.cursor ≡ [] =
    nothing_left c.args.subject.now c.loop-cursor.cursor c.requires.subject kept.follows kept.no_mark
    (λ here. true≢false (sym (c.has_line.ensures.1 here) ∙ c.loop-cursor-test.false)) in
    λ is. (sym kept.same ∙ none, none)
