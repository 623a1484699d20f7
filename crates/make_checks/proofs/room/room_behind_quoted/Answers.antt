use Rattle.std.proofs.Common.{◌+◌, List, ℕ, ap, arith, length, length-drop, subst, sym}
use Rattle.std.proofs.lemmas.List.{take_rest}
use Rattle.quote_laws.specs.Quote.{quote}
use Rattle.make_checks.proofs.DirectiveLemmas.{room_left}
use Rattle.make_checks.proofs.QuoteLemmas.{quote_length, quote_none}
use Rattle.make_checks.specs.Directives.{LeavesRoom}
use Rattle.make_checks.proofs.room.room_behind_quoted.Goals as goal

pub loop-at-preserved : goal.loop-at-preserved
loop-at-preserved c =
    let rest : List ℕ = c.loop-at.rest.now in
    let at : ℕ = c.in-Some.at in
    let size = quote_length rest at c.in-Some.ensures.0.high (λ k low. c.in-Some.ensures.0.before k (omega arith) low) in
    record {
      even = omega (
        arith,
        c.loop-at.invariant.even,
        size,
        ap (λ t. length (quote t)) (take_rest rest (at + 1)),
        ap length (c.quoted.ensures c.in-Some.ensures.1),
        c.in-Some-room_behind_both.ensures.0,
        c.in-Some-room_behind_both.ensures.1,
      );
      within = omega (arith, c.loop-at.invariant.within, ap length (take_rest rest (at + 1)), length-drop (at + 1) rest);
    }

pub returns-in-None : goal.returns-in-None
returns-in-None c fits =
    let rest : List ℕ = c.loop-at.rest.now in
    let at : ℕ = c.in-Some.at in
    omega (
      arith,
      fits,
      c.loop-at.invariant.even,
      quote_length rest at c.in-Some.ensures.0.high (λ k low. c.in-Some.ensures.0.before k (omega arith) low),
      ap length (c.quoted.ensures c.in-Some.ensures.1),
      c.in-None.ensures,
    )

pub returns : goal.returns
returns c =
    let rest : List ℕ = c.loop-at.rest.now in
    room_left (quote c.args.line.now) (quote rest) c.args.room c.loop-at.left c.checked_sub.result c.loop-at.invariant.even
    (subst (λ t. LeavesRoom t c.loop-at.left c.checked_sub.result)
    (sym (quote_none rest (λ k low. c.in_default.ensures k (omega arith) low))) c.checked_sub.ensures)
