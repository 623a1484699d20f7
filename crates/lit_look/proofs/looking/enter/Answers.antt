use Rattle.std.proofs.Common.{◌+◌, ◌≤◌, rules}
use Rattle.lit_look.specs.Seen.{count_items}
use Rattle.lit_look.proofs.SeenLemmas.{entered, last_number, suite_refuses}
use Rattle.lit_look.proofs.looking.enter.Goals as goal

pub returns-in-Err-clause-gives : goal.returns-in-Err-clause-gives
returns-in-Err-clause-gives g c = λ nodes is looks.
    let room : count_items c.args.seen.now + c.args.count ≤ 1000000 = search rules in
    suite_refuses (g.T.Tree.nodes c.args.tree.now) nodes c.args.seen.now c.args.seen.now c.args.dir.now
    c.args.count c.in-Err.fault (record {
      is = is;
      looks = looks;
      new = c.requires.new;
      counted = c.requires.counts;
      room = room;
    }) c.in-Err.ensures.gives

pub returns-in_ok-add-in-Ok-clause-gives : goal.returns-in_ok-add-in-Ok-clause-gives
returns-in_ok-add-in-Ok-clause-gives g c = λ nodes is looks.
    let room : count_items c.args.seen.now + c.args.count ≤ 1000000 = search rules in
    let copy = c.in_ok-dir-in-Ok in
    let root = c.in_ok-suite-in-Ok in
    entered (g.T.Tree.nodes c.args.tree.now) nodes c.args.seen.now c.add.new.self
    (record { dir = copy.dir; count = c.args.count; suite = root.suite }) c.in-Ok.suite c.args.dir.now (record {
      is = is;
      looks = looks;
      new = c.requires.new;
      counted = c.requires.counts;
      room = room;
    }) copy.ensures c.in-Ok.ensures.gives root.ensures c.in_ok-add-in-Ok.ensures.adds

pub returns-in_ok-add-in-Ok-clause-number : goal.returns-in_ok-add-in-Ok-clause-number
returns-in_ok-add-in-Ok-clause-number g c =
    let copy = c.in_ok-dir-in-Ok in
    last_number c.args.seen.now c.add.new.self
    (record { dir = copy.dir; count = c.args.count; suite = c.in_ok-suite-in-Ok.suite }) c.args.dir.now
    c.in_ok-add-in-Ok.field-0 c.in_ok-add-in-Ok.ensures.adds copy.ensures c.in_ok-add-in-Ok.ensures.number
