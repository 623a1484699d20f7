use Rattle.std.proofs.Common.{sym, ◌∙◌, true≢false}
use Rattle.ere_table.specs.Node.{node_at}
use Rattle.ere_auto.proofs.EndsLemmas.{stands_more, stands_same}
use Rattle.ere_auto.proofs.ends.Walk.stand.Goals as goal

pub returns-then-has-clause-stands : goal.returns-then-has-clause-stands
returns-then-has-clause-stands c = λ s from same on.
    let table = c.args.self.now.table in
    stands_more s (node_at table.nodes.items) table.entry from c.args.place c.args.self.now.standing.held.items
    c.add.new.self.held.items ((same c.args.place).0 (sym c.if-has.ensures)) c.add.ensures.adds on

pub returns-else-has-clause-stands : goal.returns-else-has-clause-stands
returns-else-has-clause-stands c = λ s from same on.
    let table = c.args.self.now.table in
    stands_same s (node_at table.nodes.items) table.entry from c.args.place c.args.self.now.standing.held.items
    (λ begins. true≢false (sym ((same c.args.place).1 begins) ∙ sym c.if-has.ensures)) on
