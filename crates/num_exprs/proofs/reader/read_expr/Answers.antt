-- The reader of an expression keeps what the whole text says: at each turn, what was read and what the rest adds.
-- Each turn is one lemma of ReaderLemmas (a token, a blank, a byte that is no token, the end).
-- The hard one is `loop-done-preserved`, the turn of a token.
use Rattle.std.proofs.Common.{◌≡◌, ℕ, ◌<◌, ◌≤◌, ◌+◌, ◌-◌, ◌++◌, length, drop, sym, ap, ◌∙◌, arith, length-drop}
use Rattle.std.specs.Option.{option_map}
use Rattle.std.proofs.lemmas.List.{drop-drop}
use Rattle.num_exprs.specs.Place.{step_within, uses_from, uses_of, weight}
use Rattle.num_exprs.specs.Token.{Token, token}
use Rattle.num_exprs.specs.View.{found_view, place_view, token_view}
use Rattle.num_exprs.proofs.ReaderLemmas.{said, said_begins, said_blank, said_next, said_stop, said_denied, said_end}
use Rattle.num_exprs.proofs.reader.read_expr.Goals as goal

pub loop-done-init : goal.loop-done-init
loop-done-init c = record {
  within = omega arith;
  rest = said_begins c.new-uses.result (place_view c.beginning-place.result) c.args.at c.args.text.now
      c.new-uses.ensures c.beginning-place.ensures;
}

pub loop-done-preserved-then-begins_row : goal.loop-done-preserved-then-begins_row
loop-done-preserved-then-begins_row c =
    let uses = c.loop-done.uses in
    let place = place_view c.loop-done.place in
    let at = c.args.at + c.loop-done.done in
    let next : c.args.at + (c.loop-done.done + 1) ≡ at + 1 = omega arith in
    record {
      within = omega arith;
      rest =
          ap (λ n. said uses c.loop-done.left place n (drop (c.loop-done.done + 1) c.args.text.now)) next
          ∙ ap (said uses c.loop-done.left place (at + 1))
          (sym (ap (drop 1) c.behind-rest.ensures ∙ drop-drop 1 c.loop-done.done c.args.text.now))
          ∙ said_blank uses c.loop-done.left place at c.behind-rest.result.now (sym c.if-begins_row.ensures.exact)
          ∙ ap (said uses c.loop-done.left place at) c.behind-rest.ensures
          ∙ c.loop-done.invariant.rest;
    }

pub returns-in-Err : goal.returns-in-Err
returns-in-Err c =
    let place = place_view c.loop-done.place in
    let at = c.args.at + c.loop-done.done in
    let rest = c.behind-rest.result.now in
    let long : length rest ≡ length (drop c.loop-done.done c.args.text.now) = ap length c.behind-rest.ensures in
    c.failed.ensures
    ∙ sym (said_stop c.loop-done.uses c.loop-done.left place at rest c.in-Err.stop (sym c.if-begins_row.ensures.exact)
    (ap (λ wanted. token wanted rest) (sym c.wants.ensures) ∙ sym c.in_ok-stop.ensures.exact
    ∙ ap found_view c.in-Err.is)
    (omega (arith, long, length-drop c.loop-done.done c.args.text.now)))
    ∙ ap (said c.loop-done.uses c.loop-done.left place at) c.behind-rest.ensures
    ∙ c.loop-done.invariant.rest

pub returns-in_default : goal.returns-in_default
returns-in_default c =
    let uses = c.loop-done.uses in
    let place = place_view c.loop-done.place in
    let at = c.args.at + c.loop-done.done in
    let rest = c.behind-rest.result.now in
    let found : Token × ℕ = (token_view c.in-Ok.token, c.in-Ok.count) in
    let long : length rest ≡ length (drop c.loop-done.done c.args.text.now) = ap length c.behind-rest.ensures in
    let some : 0 < c.in-Ok.count = rw c.in-Ok.is at c.in_ok-stop.ensures.some in
    let fits : c.in-Ok.count ≤ length rest = rw c.in-Ok.is at c.in_ok-stop.ensures.within in
    let goes : option_map place_view c.in_ok-next-in-Ok.field-0 ≡ step_within c.loop-done.left place found.0 =
    c.in_ok-next-in-Ok.ensures in
    c.failed-in_default.ensures
    ∙ sym (said_denied uses c.loop-done.left place at rest found (sym c.if-begins_row.ensures.exact)
    (ap (λ wanted. token wanted rest) (sym c.wants.ensures) ∙ sym c.in_ok-stop.ensures.exact
    ∙ ap found_view c.in-Ok.is)
    (omega (arith, long, length-drop c.loop-done.done c.args.text.now)) some fits
    (sym goes ∙ ap (option_map place_view) c.in_default.is))
    ∙ ap (said uses c.loop-done.left place at) c.behind-rest.ensures
    ∙ c.loop-done.invariant.rest

pub loop-done-preserved : goal.loop-done-preserved
loop-done-preserved c =
    let uses = c.loop-done.uses in
    let place = place_view c.loop-done.place in
    let at = c.args.at + c.loop-done.done in
    let rest = c.behind-rest.result.now in
    let found : Token × ℕ = (token_view c.in-Ok.token, c.in-Ok.count) in
    let long : length rest ≡ length (drop c.loop-done.done c.args.text.now) = ap length c.behind-rest.ensures in
    let all = length-drop c.loop-done.done c.args.text.now in
    let some : 0 < c.in-Ok.count = rw c.in-Ok.is at c.in_ok-stop.ensures.some in
    let fits : c.in-Ok.count ≤ length rest = rw c.in-Ok.is at c.in_ok-stop.ensures.within in
    let goes : option_map place_view c.in_ok-next-in-Ok.field-0 ≡ step_within c.loop-done.left place found.0 =
    c.in_ok-next-in-Ok.ensures in
    let noted : c.note.new.uses ≡ uses ++ uses_from at c.in_ok-used-in-Ok.used = c.in_ok-note-in-Ok.ensures in
    let next = place_view c.in-Some.next in
    let behind = c.loop-done.done + c.in-Ok.count in
    let further : c.args.at + behind ≡ at + c.in-Ok.count = omega arith in
    record {
      within = omega arith;
      rest =
          ap (λ n. said c.note.new.uses (c.loop-done.left - c.weight-weight.result) next n
          (drop behind c.args.text.now)) further
          ∙ ap (λ n. said c.note.new.uses (c.loop-done.left - n) next (at + c.in-Ok.count)
          (drop behind c.args.text.now)) c.weight-weight.ensures
          ∙ ap (λ names. said names (c.loop-done.left - weight found.0) next (at + c.in-Ok.count)
          (drop behind c.args.text.now)) (noted ∙ ap (λ name. uses ++ uses_from at name) c.in_ok-used-in-Ok.ensures)
          ∙ ap (said (uses ++ uses_of at found.0) (c.loop-done.left - weight found.0) next (at + c.in-Ok.count))
          (sym (ap (drop c.in-Ok.count) c.behind-rest.ensures
          ∙ drop-drop c.in-Ok.count c.loop-done.done c.args.text.now))
          ∙ said_next uses c.loop-done.left place next at rest found (sym c.if-begins_row.ensures.exact)
          (ap (λ wanted. token wanted rest) (sym c.wants.ensures) ∙ sym c.in_ok-stop.ensures.exact
          ∙ ap found_view c.in-Ok.is)
          (omega arith) some fits (sym goes ∙ ap (option_map place_view) c.in-Some.is)
          ∙ ap (said uses c.loop-done.left place at) c.behind-rest.ensures
          ∙ c.loop-done.invariant.rest;
    }

pub returns : goal.returns
returns c =
    let place = place_view c.loop-done.place in
    let at = c.args.at + c.loop-done.done in
    let none : length (drop c.loop-done.done c.args.text.now) ≡ 0 =
    omega (arith, length-drop c.loop-done.done c.args.text.now) in
    c.finished.ensures
    ∙ sym (said_end c.loop-done.uses c.loop-done.left place at (drop c.loop-done.done c.args.text.now) none)
    ∙ c.loop-done.invariant.rest
