use Rattle.std.proofs.Common.{refl, arith}
use Rattle.ere_auto.specs.RowTableView.{row_table_of}
use Rattle.ere_auto.proofs.RowTableLemmas.{steps_set, keeps_rows}
use Rattle.ere_auto.proofs.rows.Rows.set_cell.Goals as goal

pub returns-clause-steps : goal.returns-clause-steps
returns-clause-steps c = λ T e known leads.
    let R = row_table_of c.args.self.now in
    steps_set T e R _ c.args.row c.args.byte c.args.to (keeps_rows R _ refl refl)
    (omega (arith, c.args.self.now.square, c.args.self.now.rows.ok.0, c.args.self.now.cells.ok.0)) refl refl
    (omega (arith, c.requires.row, c.args.self.now.rows.ok.0)) (omega arith) known leads
