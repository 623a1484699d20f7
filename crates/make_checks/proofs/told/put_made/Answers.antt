use Rattle.std.proofs.Common.{[], ◌++◌, ◌∙◌, ap, refl, sym, append_assoc, append-nil}
use Rattle.std.specs.List.{flat_map}
use Rattle.file_laws.specs.Made.{made_line}
use Rattle.make_checks.specs.Directives.{directive_text, text_left}
use Rattle.tt_pieces.specs.Telling.{state}
use Rattle.tt_pieces.proofs.PenLemmas.{tells_nothing, tells_same, tells_then}
use Rattle.make_checks.proofs.told.put_made.Goals as goal

pub loop-directive-init : goal.loop-directive-init
loop-directive-init g c = record { text = []; whole = refl; told = tells_nothing (state g.S.Sink c.args.pen.now c.args.sink.now) }

pub loop-directive-preserved : goal.loop-directive-preserved
loop-directive-preserved g c =
    let l = c.loop-directive in
    let lead = c.args.lead.now in
    let line = made_line lead (directive_text c.in-Some.directive) in
    record {
      text = l.invariant.text ++ line;
      whole = append_assoc l.invariant.text line (text_left lead c.in-Some.later)
          ∙ ap (λ t. l.invariant.text ++ flat_map (made_line lead) t) (sym c.in-Some.ensures) ∙ l.invariant.whole;
      told = tells_then (state g.S.Sink c.args.pen.now c.args.sink.now) (state g.S.Sink l.pen l.sink)
          (state g.S.Sink c.put_line.new.pen c.put_line.new.sink) l.invariant.text line l.invariant.told c.put_line.ensures;
    }

pub returns : goal.returns
returns g c =
    let l = c.loop-directive in
    tells_same (state g.S.Sink c.args.pen.now c.args.sink.now) (state g.S.Sink l.pen l.sink) _ _
    (sym (append-nil l.invariant.text) ∙ ap (λ t. l.invariant.text ++ flat_map (made_line c.args.lead.now) t) (sym c.in_default.ensures)
    ∙ l.invariant.whole) l.invariant.told
