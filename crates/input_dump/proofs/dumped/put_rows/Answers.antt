use Rattle.std.proofs.Common.{[], ◌++◌, ◌∙◌, ap, refl, sym, append_assoc, append-nil}
use Rattle.input_dump.specs.Rows.{row_bytes}
use Rattle.tt_pieces.specs.Telling.{state}
use Rattle.tt_pieces.proofs.PenLemmas.{tells_nothing, tells_same, tells_then}
use Rattle.input_dump.proofs.dumped.put_rows.Goals as goal

pub loop-row-init : goal.loop-row-init
loop-row-init g c = record { text = []; whole = refl; told = tells_nothing (state g.S.Sink c.args.pen.now c.args.sink.now) }

pub loop-row-preserved : goal.loop-row-preserved
loop-row-preserved g c =
    let l = c.loop-row in
    let row = row_bytes c.in-Some.row in
    record {
      text = l.invariant.text ++ row;
      whole = append_assoc l.invariant.text row c.next_row.new.self ∙ ap (λ t. l.invariant.text ++ t) c.in-Some.ensures.moved ∙ l.invariant.whole;
      told = tells_then (state g.S.Sink c.args.pen.now c.args.sink.now) (state g.S.Sink l.pen l.sink) (state g.S.Sink c.put_row.new.pen c.put_row.new.sink) l.invariant.text row l.invariant.told c.put_row.ensures;
    }

pub returns : goal.returns
returns g c =
    let l = c.loop-row in
    tells_same (state g.S.Sink c.args.pen.now c.args.sink.now) (state g.S.Sink l.pen l.sink) _ _
    (sym (append-nil l.invariant.text) ∙ ap (λ t. l.invariant.text ++ t) (sym (c.in_default.ensures.end refl).0) ∙ l.invariant.whole) l.invariant.told
