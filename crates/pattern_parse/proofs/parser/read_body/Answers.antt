use Rattle.std.proofs.Common.{Ok, ap, sym, true≢false, ◌∙◌}
use Rattle.std.specs.FinMap as fin
use Rattle.pattern_parse.specs.PieceView.{items_view}
use Rattle.pattern_parse.proofs.PieceLemmas.{plain_alone}
use Rattle.pattern_parse.proofs.parser.read_body.Goals.{else-is_plain, then-is_plain}
use Rattle.pattern_parse.proofs.parser.read_body.Goals as goal

pub returns-in_ok-plain_body : goal.returns-in_ok-plain_body
returns-in_ok-plain_body c =
    let a = c.args in
    plain_alone a.body.now a.rules.now (fin.get a.known.now) (Ok (items_view c.in_ok-plain_body.field-0))
    c.if-body-gt-MAX_BODY.false (ap Ok c.in_ok-plain_body.ensures)
    (λ other. elim c.if-is_plain.branch [
      | then-is_plain w ↦ absurd (true≢false (w.if-is_plain.ensures ∙ other))
      | else-is_plain w ↦ w.is_text_alone.ensures (sym w.value-is ∙ c.if-is_text_alone.true)
    ])
