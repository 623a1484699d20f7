use Rattle.std.proofs.Common.{sym, subst}
use Rattle.ere_table.specs.Node.{node_at}
use Rattle.ere_auto.specs.Ends.{AreOne, PassesAll}
use Rattle.ere_auto.specs.declared.threads.Threads.{Threads}
use Rattle.ere_auto.proofs.EndsLemmas.{moved_one, passes}
use Rattle.ere_auto.proofs.ends.Walk.pass.Goals as goal

pub returns-clause-one : goal.returns-clause-one
returns-clause-one c =
    let T = node_at c.args.self.now.table.nodes.items in
    let starts = c.is_line_start-starts.result in
    let ends = c.ends_line-ends.result in
    let K = c.close.new.reached.held.items in
    subst (λ (t : Threads). AreOne t.held.items) (sym c.swap.ensures.x_after)
    (moved_one starts ends T c.args.self.now.standing.held.items K c.go_on-moves.new.moved.held.items c.byte_at-next.result
    c.go_on-moves.result.used c.requires.one
    (rw c.as_slice-seeds.ensures.value at c.close.ensures.closed)
    (rw (c.as_slice-seeds.ensures.value, c.as_slice.ensures.value) at c.go_on-moves.ensures.moved))

pub returns-clause-passes : goal.returns-clause-passes
returns-clause-passes c =
    let s = c.args.text.now in
    let table = c.args.self.now.table in
    let T = node_at table.nodes.items in
    let seeds = c.args.self.now.standing.held.items in
    let starts = c.is_line_start-starts.result in
    let next = c.byte_at-next.result in
    let K = c.close.new.reached.held.items in
    let new = c.go_on-moves.new.moved.held.items in
    let moves = c.go_on-moves.result in
    let through = passes s table c.args.place moves.used seeds K new starts next moves.met c.byte_at-next.ensures
    (sym c.is_line_start-starts.ensures)
    (rw (c.as_slice-seeds.ensures.value, c.ends_line-ends.ensures) at c.close.ensures.closed)
    (rw (c.as_slice-seeds.ensures.value, c.as_slice.ensures.value) at c.go_on-moves.ensures.moved)
    (rw (c.as_slice-seeds.ensures.value, c.as_slice.ensures.value) at c.go_on-moves.ensures.met)
    (rw (c.as_slice-seeds.ensures.value, c.as_slice.ensures.value) at c.go_on-moves.ensures.cut) c.requires.one in
    subst (λ (t : Threads). PassesAll s table c.args.place seeds t.held.items c.is_some.result) (sym c.swap.ensures.x_after)
    (subst (PassesAll s table c.args.place seeds new) (sym c.is_some.ensures) through)
