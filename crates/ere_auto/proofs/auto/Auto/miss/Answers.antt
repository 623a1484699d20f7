use Rattle.std.proofs.Common.{◌≡◌, ◌<◌, ◌==◌, ◌&&◌, is_none, List, length, refl, sym, ap, ◌∙◌, subst, arith}
use Rattle.ere_table.specs.Node.{node_at}
use Rattle.ere_auto.specs.RowTable.{row_in, AreSteps, Keeps, IsRow, Leads}
use Rattle.ere_auto.specs.RowTableView.{row_table_of}
use Rattle.ere_auto.specs.State.{state_of}
use Rattle.ere_auto.specs.declared.thread.Thread.{Thread}
use Rattle.ere_auto.specs.declared.rows.Rows.{Rows}
use Rattle.ere_auto.proofs.RowTableLemmas.{leads_new, turns_new}
use Rattle.ere_auto.proofs.auto.Auto.miss.Goals as goal

pub returns-clause-turns : goal.returns-clause-turns
returns-clause-turns c = λ t of.
    let old = c.args.self.now in
    let T = node_at old.table.nodes.items in
    let e = old.table.entry in
    let R = row_table_of old.rows in
    let S = row_table_of c.enter-entered.new.self in
    let L = row_table_of c.learn.new.self in
    let K : List Thread = c.step-note.new.self.moved.held.items in
    let to = c.enter-entered.result.row in
    let byte = c.args.byte in
    let seeks = c.seeks-searching.result in
    let begun = c.step-note.result.begun in
    let met = c.step-note.result.met in
    let same : row_table_of c.step-note.new.self.rows ≡ R = ap (λ (x : Rows). row_table_of x) c.step-note.ensures.rows in
    let known : AreSteps T e S =
    c.enter-entered.ensures.steps T e (subst (AreSteps T e) (sym same) of.steps) in
    let row : IsRow S to K (byte == 10) seeks begun met =
    subst (λ x. IsRow S to x (byte == 10) seeks begun met) c.as_slice.ensures.value c.enter-entered.ensures.row in
    let sought : seeks ≡ ((row_in old.rows.rows.items old.row).searching && is_none met) =
    c.seeks-searching.ensures ∙ ap (λ x. x.searching && is_none met) c.row-row.ensures in
    let inside : old.row < length old.rows.rows.items = omega (arith, old.in_rows, old.rows.rows.ok.0) in
    let all : AreSteps T e L = c.learn.ensures.steps T e known (λ k.
    subst (λ r. Leads T e S r byte to) (sym c.step-note.ensures.row)
    (leads_new T e R S old.row byte to K (byte == 10) seeks begun met
    (subst (λ x. Keeps x S) same (c.enter-entered.ensures.kept k)) inside row c.step-note.ensures.step refl sought)) in
    turns_new (state_of old) _ S L byte to K (byte == 10) seeks begun met c.step-note.ensures.step refl sought row
    (ap (λ v. v.items) c.learn.ensures.pool) (ap (λ v. v.items) c.learn.ensures.rows) refl refl refl
    all
