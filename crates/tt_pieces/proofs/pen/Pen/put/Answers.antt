use Rattle.std.proofs.Common.{◌≡◌, ◌++◌, ◌∙◌, ap, sym, subst, [], if◌then◌else◌}
use Rattle.tt_pieces.specs.Telling.{IsToldBy, seen}
use Rattle.tt_pieces.proofs.PenLemmas.{told_more}
use Rattle.tt_pieces.proofs.pen.Pen.put.Goals as goal

pub returns-then-keep : goal.returns-then-keep
returns-then-keep g c origin message told =
    let old = c.args.self.now in
    let now = seen g.S.Sink c.args.sink.now in
    let kept : c.keep.new.self.waiting.items ≡ old.waiting.items ++ c.args.piece.now =
    c.keep.ensures.waiting ∙ ap (λ b. if b then old.waiting.items ++ c.args.piece.now else old.waiting.items) c.if-keep.true in
    subst (λ f. IsToldBy f origin c.keep.new.self.waiting.items now (message ++ c.args.piece.now)) (sym c.keep.ensures.failed)
    (subst (λ w. IsToldBy old.failed origin w now (message ++ c.args.piece.now)) (sym kept)
    (told_more old.failed origin now old.waiting.items message c.args.piece.now told))

pub returns : goal.returns
returns g c origin message told =
    let old = c.args.self.now in
    let now = seen g.S.Sink c.args.sink.now in
    let kept : c.keep.new.self.waiting.items ≡ old.waiting.items =
    c.keep.ensures.waiting ∙ ap (λ b. if b then old.waiting.items ++ c.args.piece.now else old.waiting.items) c.if-keep.false in
    let before : IsToldBy c.keep.new.self.failed origin c.keep.new.self.waiting.items now message =
    subst (λ f. IsToldBy f origin c.keep.new.self.waiting.items now message) (sym c.keep.ensures.failed)
    (subst (λ w. IsToldBy old.failed origin w now message) (sym kept) told) in
    let flushed = c.flush.ensures.told origin message before in
    let middle = seen g.S.Sink c.flush.new.sink in
    let none : IsToldBy c.flush.new.self.failed origin [] middle message =
    subst (λ w. IsToldBy c.flush.new.self.failed origin w middle message) c.flush.ensures.empty flushed in
    let written = c.write_unless-self.ensures origin (message ++ c.args.piece.now)
    (told_more c.flush.new.self.failed origin middle [] message c.args.piece.now none) in
    subst (λ w. IsToldBy c.write_unless-self.result origin w (seen g.S.Sink c.write_unless-self.new.sink) (message ++ c.args.piece.now))
    (sym c.flush.ensures.empty) written
