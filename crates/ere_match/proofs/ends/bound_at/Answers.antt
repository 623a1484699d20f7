use Rattle.std.proofs.Common.{ℕ, Some, sym, subst, arith}
use Rattle.ere_match.specs.Ends.{IsBound}
use Rattle.ere_reach.specs.Leads.{TellsEnd}
use Rattle.ere_tree.specs.View.{view}
use Rattle.ere_match.proofs.EndsLemmas.{bound_nearer, bound_none, in_turn}
use Rattle.ere_match.proofs.ends.bound_at.Goals.{in-Ok-Some, in-Err}
use Rattle.ere_match.proofs.ends.bound_at.Goals as goal

pub returns-in-Ok-None : goal.returns-in-Ok-None
returns-in-Ok-None c =
    let s = c.args.slice.now in
    let span = c.args.span in
    let high = c.loop-turn.high in
    let one = c.index.result.now in
    let stands = c.in_ok-singles.ensures one
    (in_turn c.in_ok-singles.singles.items c.saturating_add.result c.len-count.result one
    (omega (arith, c.len-count.ensures, c.in_ok-singles.singles.ok.0))
    (omega (arith, c.loop-turn-test.true)) c.index.ensures) in
    bound_none s (view c.args.ere.now) (view one) span.from high span.to (λ i low. omega (arith, c.type_inv.slice i)) stands
    c.loop-turn.invariant (subst (TellsEnd s (view one) span.from high) c.in-Ok-None.field-0-is c.in-Ok-None.ensures)

pub loop-turn-preserved : goal.loop-turn-preserved
loop-turn-preserved c =
    let s = c.args.slice.now in
    let t = view c.args.ere.now in
    let span = c.args.span in
    let high = c.loop-turn.high in
    let one = c.index.result.now in
    let stands = c.in_ok-singles.ensures one
    (in_turn c.in_ok-singles.singles.items c.saturating_add.result c.len-count.result one
    (omega (arith, c.len-count.ensures, c.in_ok-singles.singles.ok.0))
    (omega (arith, c.loop-turn-test.true)) c.index.ensures) in
    elim c.match-greatest.branch [
      | in-Ok-Some w ↦
          subst (λ (n : ℕ). IsBound s t span.from span.to (Some n)) (sym w.high-is)
          (bound_nearer s t (view one) span.from high span.to w.in-Ok-Some.end
          (λ i low. omega (arith, c.type_inv.slice i)) stands c.loop-turn.invariant
          (subst (TellsEnd s (view one) span.from high) w.in-Ok-Some.field-0-is w.in-Ok-Some.ensures))
      | in-Err w ↦
          subst (λ (n : ℕ). IsBound s t span.from span.to (Some n)) (sym w.high-is) c.loop-turn.invariant
    ]
