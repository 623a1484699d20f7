use Rattle.std.proofs.Common.{◌≡◌, ◌∙◌, true, ap, sym}
use Rattle.std.proofs.lemmas.Bool.{not-false}
use Rattle.ere_auto.specs.RowTable.{row_in}
use Rattle.ere_auto.specs.State.{state_of}
use Rattle.ere_auto.proofs.RowTableLemmas.{over_row}
use Rattle.ere_auto.proofs.SeenLemmas.{seen_more, seen_waiting, known_behind}
use Rattle.ere_auto.proofs.auto.Auto.show.Goals as goal

pub returns-then-self-clause-seen : goal.returns-then-self-clause-seen
returns-then-self-clause-seen c = λ t front seen.
    seen_waiting (state_of c.args.self.now) (state_of c.wait.new.self) t c.args.byte front c.wait.ensures seen c.if-self.true

pub returns-clause-seen : goal.returns-clause-seen
returns-clause-seen c = λ t front seen.
    let row = row_in c.go.new.self.rows.rows.items c.go.new.self.row in
    seen_more (state_of c.args.self.now) (state_of c.go.new.self) t c.args.byte row.begun row.met front
    (c.go.ensures.goes t seen.expression) seen c.if-self.false

pub returns-clause-known : goal.returns-clause-known
returns-clause-known c = λ over t front rest seen.
    let new = c.go.new.self in
    let row = row_in new.rows.rows.items new.row in
    let is : row.over ≡ true = ap (λ x. x.over) (sym c.row.ensures) ∙ not-false c.row.result.over over in
    let both = over_row new.rows.pool.items row (new.rows.over new.row new.in_rows) is in
    known_behind (state_of c.args.self.now) (state_of new) t c.args.byte row.begun row.met front rest
    (c.go.ensures.goes t seen.expression) seen c.if-self.false both.0 both.1
