use Rattle.std.proofs.Common.{◌≡◌, ℕ, ◌<◌, ◌≤◌, ◌+◌, ◌++◌, [], ◌∷◌, List, length, drop, map, sym, ap, ◌∙◌, arith, length-drop}
use Rattle.std.proofs.lemmas.List.{drop-drop, map-append}
use Rattle.bool_exprs.specs.Piece.{Piece, pieces_from}
use Rattle.bool_exprs.specs.View.{front_view, piece_view}
use Rattle.bool_exprs.proofs.PieceLemmas.{before, name_next, name_over, name_refused, name_ended}
use Rattle.bool_exprs.proofs.name.pieces_at.Goals as goal

pub returns-in-Nothing-clause-exact : goal.returns-in-Nothing-clause-exact
returns-in-Nothing-clause-exact c =
    let held : List Piece = map piece_view c.loop-done.pieces in
    let rest : List ℕ = c.behind.result.now in
    let long : length rest ≡ length (drop c.loop-done.done c.args.text.now) = ap length c.behind.ensures in
    sym (name_over held c.loop-done.done rest (sym c.in_ok-front_of.ensures.exact ∙ ap front_view c.in-Nothing.is)
    (omega (arith, long, length-drop c.loop-done.done c.args.text.now, c.loop-done-test.true)))
    ∙ ap (λ text. before held c.loop-done.done (pieces_from 0 text)) c.behind.ensures
    ∙ c.loop-done.invariant.rest

pub returns-in-Refused-clause-exact : goal.returns-in-Refused-clause-exact
returns-in-Refused-clause-exact c =
    let held : List Piece = map piece_view c.loop-done.pieces in
    let rest : List ℕ = c.behind.result.now in
    let long : length rest ≡ length (drop c.loop-done.done c.args.text.now) = ap length c.behind.ensures in
    sym (name_refused held c.loop-done.done rest (sym c.in_ok-front_of.ensures.exact ∙ ap front_view c.in-Refused.is)
    (omega (arith, long, length-drop c.loop-done.done c.args.text.now, c.loop-done-test.true)))
    ∙ ap (λ text. before held c.loop-done.done (pieces_from 0 text)) c.behind.ensures
    ∙ c.loop-done.invariant.rest

pub loop-done-preserved : goal.loop-done-preserved
loop-done-preserved c =
    let held : List Piece = map piece_view c.loop-done.pieces in
    let rest : List ℕ = c.behind.result.now in
    let one : Piece = piece_view c.in-Begins.piece in
    let count : ℕ = c.in-Begins.count in
    let all = length-drop c.loop-done.done c.args.text.now in
    let long : length rest ≡ length (drop c.loop-done.done c.args.text.now) = ap length c.behind.ensures in
    let fits : (0 < count) × (count ≤ length rest) = rw c.in-Begins.is at c.in_ok-front_of.ensures.within in
    let grown : map piece_view c.push.new.self ≡ held ++ one ∷ [] =
    ap (map piece_view) c.in_ok-push-in-Begins.ensures.ok
    ∙ map-append piece_view c.loop-done.pieces (c.in-Begins.piece ∷ []) in
    record {
      within = omega (arith, long, all, fits.1, c.loop-done.invariant.within);
      rest =
          ap (λ pieces. before pieces (c.loop-done.done + count) (pieces_from 0
          (drop (c.loop-done.done + count) c.args.text.now))) grown
          ∙ ap (λ text. before (held ++ one ∷ []) (c.loop-done.done + count) (pieces_from 0 text))
          (sym (ap (drop count) c.behind.ensures ∙ drop-drop count c.loop-done.done c.args.text.now))
          ∙ name_next held c.loop-done.done rest one count
          (sym c.in_ok-front_of.ensures.exact ∙ ap front_view c.in-Begins.is)
          (omega (arith, long, all, c.loop-done-test.true)) fits.0 fits.1
          ∙ ap (λ text. before held c.loop-done.done (pieces_from 0 text)) c.behind.ensures
          ∙ c.loop-done.invariant.rest;
    }

pub returns-clause-exact : goal.returns-clause-exact
returns-clause-exact c =
    let held : List Piece = map piece_view c.loop-done.pieces in
    let none : length (drop c.loop-done.done c.args.text.now) ≡ 0 =
    omega (arith, length-drop c.loop-done.done c.args.text.now, c.loop-done-test.false) in
    sym (name_ended held c.loop-done.done (drop c.loop-done.done c.args.text.now) none) ∙ c.loop-done.invariant.rest
