-- The parser's loop: what was read, and what is said behind it, is what the whole text says.
-- Each token either is no token, or may not stand here, or is taken; at the end nothing is left.
-- `loop-at-preserved` is the step behind a token that is taken.
use Rattle.std.proofs.Common.{◌≡◌, ◌≤◌, ◌+◌, Ok, length, drop, sym, ap, ◌∙◌, arith, length-drop}
use Rattle.std.proofs.lemmas.List.{drop-drop}
use Rattle.ere_tree.specs.Levels.{state, taken}
use Rattle.ere_tree.specs.TokenView.{token_view}
use Rattle.ere_tree.proofs.ReadingLemmas.{said, said_behind, said_refused, said_denied, said_at_beginning, said_refused_at_end, said_at_end}
use Rattle.ere_tree.proofs.parser.read_all.Goals as goal

pub loop-at-init : goal.loop-at-init
loop-at-init c = record {
  within = omega arith;
  rest = ap (λ levels. said c.args.fold levels 0 c.args.bytes.now) c.new-reader.ensures
      ∙ said_at_beginning c.args.fold c.args.bytes.now;
}

pub returns-in-Err : goal.returns-in-Err
returns-in-Err c =
    let levels = state c.loop-at.reader in
    let long = length-drop c.loop-at.at c.args.bytes.now in
    let same : length c.behind.result.now ≡ length (drop c.loop-at.at c.args.bytes.now) =
    ap length c.behind.ensures in
    sym c.loop-at.invariant.rest
    ∙ ap (said c.args.fold levels c.loop-at.at) (sym c.behind.ensures)
    ∙ said_refused c.args.fold levels c.loop-at.at c.behind.result.now c.in-Err.fault (omega arith)
    (sym c.in-Err.ensures.exact)

pub returns-in-Some : goal.returns-in-Some
returns-in-Some c =
    let levels = state c.loop-at.reader in
    let long = length-drop c.loop-at.at c.args.bytes.now in
    let same : length c.behind.result.now ≡ length (drop c.loop-at.at c.args.bytes.now) =
    ap length c.behind.ensures in
    sym c.loop-at.invariant.rest
    ∙ ap (said c.args.fold levels c.loop-at.at) (sym c.behind.ensures)
    ∙ said_denied c.args.fold levels c.loop-at.at c.behind.result.now (token_view c.in-Ok.token, c.in-Ok.taken)
    c.in-Some.kind (omega arith) (sym c.in-Ok.ensures.exact) (sym c.in-Some.ensures)

pub loop-at-preserved : goal.loop-at-preserved
loop-at-preserved c =
    let old = state c.loop-at.reader in
    let rest = c.behind.result.now in
    let at = c.loop-at.at in
    let bytes = c.args.bytes.now in
    let long = length-drop at bytes in
    let same : length rest ≡ length (drop at bytes) = ap length c.behind.ensures in
    let fits : c.in-Ok.taken ≤ length rest = c.in-Ok.ensures.within in
    record {
      within = omega arith;
      rest =
          ap (λ levels. said c.args.fold levels (at + c.in-Ok.taken) (drop (at + c.in-Ok.taken) bytes))
          c.in_default-take.ensures
          ∙ ap (said c.args.fold (taken c.args.fold at (token_view c.in-Ok.token) old) (at + c.in-Ok.taken))
          (sym (ap (drop c.in-Ok.taken) c.behind.ensures ∙ drop-drop c.in-Ok.taken at bytes))
          ∙ said_behind c.args.fold old at rest (token_view c.in-Ok.token, c.in-Ok.taken)
          (sym c.in-Ok.ensures.exact) (sym c.in_default.ensures) c.in-Ok.ensures.some fits
          ∙ ap (said c.args.fold old at) c.behind.ensures
          ∙ c.loop-at.invariant.rest;
    }

pub returns-in-Some-refusal_at_end : goal.returns-in-Some-refusal_at_end
returns-in-Some-refusal_at_end c =
    let none : length (drop c.loop-at.at c.args.bytes.now) ≡ 0 =
    omega (arith, length-drop c.loop-at.at c.args.bytes.now) in
    sym c.loop-at.invariant.rest
    ∙ said_refused_at_end c.args.fold (state c.loop-at.reader) c.loop-at.at (drop c.loop-at.at c.args.bytes.now)
    c.in-Some-refusal_at_end.fault none (sym c.in-Some-refusal_at_end.ensures)

pub returns-in-Ok-finish : goal.returns-in-Ok-finish
returns-in-Ok-finish c =
    let none : length (drop c.loop-at.at c.args.bytes.now) ≡ 0 =
    omega (arith, length-drop c.loop-at.at c.args.bytes.now) in
    sym c.loop-at.invariant.rest
    ∙ said_at_end c.args.fold (state c.loop-at.reader) c.loop-at.at (drop c.loop-at.at c.args.bytes.now)
    none (sym c.in_default-refusal_at_end.ensures)
    ∙ ap Ok (sym c.in-Ok-finish.ensures)
