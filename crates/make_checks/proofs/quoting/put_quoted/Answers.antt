use Rattle.std.proofs.Common.{[], ◌++◌, ◌+◌, List, ℕ, get_or, length, take, sym, ap, ◌∙◌, arith, refl, length-drop}
use Rattle.std.proofs.lemmas.List.{take_rest}
use Rattle.quote_laws.specs.Quote.{quote, quote_byte}
use Rattle.make_checks.proofs.QuoteLemmas.{quote_none, quote_step}
use Rattle.tt_pieces.specs.Telling.{state}
use Rattle.tt_pieces.proofs.PenLemmas.{tells_nothing, tells_same, tells_then}
use Rattle.make_checks.proofs.quoting.put_quoted.Goals as goal

pub loop-at-init : goal.loop-at-init
loop-at-init g c = record { text = []; so_far = refl; within = omega arith; told = tells_nothing (state g.S.Sink c.args.pen.now c.args.sink.now) }

pub loop-at-preserved : goal.loop-at-preserved
loop-at-preserved g c =
    let l = c.loop-at in
    let rest : List ℕ = l.rest.now in
    let at : ℕ = c.in-Some.at in
    let byte : List ℕ = quote_byte (get_or rest at 0) in
    let start = state g.S.Sink c.args.pen.now c.args.sink.now in
    let now = state g.S.Sink l.pen l.sink in
    let front = state g.S.Sink c.put.new.self c.put.new.sink in
    let behind = state g.S.Sink c.put-in-Some.new.self c.put-in-Some.new.sink in
    record {
      text = (l.invariant.text ++ take at rest) ++ byte;
      so_far =
          ap (λ t. ((l.invariant.text ++ take at rest) ++ byte) ++ quote t) (take_rest rest (at + 1))
          ∙ quote_step l.invariant.text rest _ at c.in-Some.ensures.0.high (λ k low. c.in-Some.ensures.0.before k (omega arith) low)
          l.invariant.so_far;
      within = omega (arith, l.invariant.within, ap length (take_rest rest (at + 1)), length-drop (at + 1) rest);
      told = tells_then start front behind (l.invariant.text ++ take at rest) byte
          (tells_then start now front l.invariant.text (take at rest) l.invariant.told c.put.ensures)
          (tells_same front behind _ _ (c.quoted.ensures c.in-Some.ensures.1) c.put-in-Some.ensures);
    }

pub returns : goal.returns
returns g c =
    let l = c.loop-at in
    let rest : List ℕ = l.rest.now in
    let start = state g.S.Sink c.args.pen.now c.args.sink.now in
    let now = state g.S.Sink l.pen l.sink in
    let end = state g.S.Sink c.put-2.new.self c.put-2.new.sink in
    tells_same start end _ _
    (ap (λ t. l.invariant.text ++ t) (sym (quote_none rest (λ k low. c.in_default.ensures k (omega arith) low))) ∙ l.invariant.so_far)
    (tells_then start now end l.invariant.text rest l.invariant.told c.put-2.ensures)
