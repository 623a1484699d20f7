use Rattle.std.proofs.Common.{◌≡◌, ◌-◌, ap, get_or, ◌∙◌, arith}
use Rattle.std.proofs.lemmas.List.{get_or_default}
use Rattle.input_dump.proofs.FollowLemmas.{mark_at}
use Rattle.input_dump.proofs.JumpLemmas.{jumps_before}
use Rattle.input_dump.proofs.cursor.pass_before.Goals as goal

pub begin_before-before-requires-clause-known : goal.begin_before-before-requires-clause-known
begin_before-before-requires-clause-known c =
    let s = c.args.subject.now in
    let mark = mark_at s c.args.next c.index.result.now c.requires.subject c.requires.within c.index.ensures in
    c.index-line.ensures ∙ get_or_default s.lines.items c.args.next c.index-line.result.now 0 c.requires.within ∙ mark.line

pub returns-then-cursor-near : goal.returns-then-cursor-near
returns-then-cursor-near c =
    let s = c.args.subject.now in
    let near_is : c.saturating_sub-near.result ≡ get_or s.lines.items c.args.next 0 - s.shown.context =
    c.saturating_sub-near.ensures ∙ ap (λ line. line - s.shown.context)
    (c.index-line.ensures ∙ get_or_default s.lines.items c.args.next c.index-line.result.now 0 c.requires.within) in
    let passed = jumps_before s c.requires.subject c.args.cursor.now c.args.next c.index.result.now c.requires.follows c.requires.no_mark
    c.requires.hidden c.requires.not_all c.requires.within c.requires.passed c.index.ensures c.if-cursor-subject.true
    c.saturating_sub-near.result near_is c.if-cursor-near.true c.begin_before-before.result c.begin_before-before.ensures.begins
    c.begin_before-before.ensures.number c.begin_before-before.ensures.within c.line_end.result c.line_end.ensures in
    record { same = passed.same; no_mark = passed.no_mark; on = omega (arith, passed.further); follows = passed.follows }
