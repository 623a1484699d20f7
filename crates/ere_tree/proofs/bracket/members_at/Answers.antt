-- The loop over a bracket's members: those read so far, and those that the text has from here on, are all members.
-- Each step closes the bracket, is refused, or adds a member to the set.
-- `loop-at-preserved` is the step behind a member.
use Rattle.std.proofs.Common.{◌≡◌, ◌+◌, false, true, length, drop, refl, sym, ap, ◌∙◌, arith, length-drop, Err, ◌≤◌, ◌-◌}
use Rattle.std.proofs.lemmas.List.{drop-drop}
use Rattle.ere_tree.specs.View.{has_bit}
use Rattle.ere_tree.specs.Bracket.{member, members}
use Rattle.ere_tree.proofs.BracketLemmas.{members_agree, members_close, members_refused, members_given, members_end}
use Rattle.ere_tree.proofs.bracket.members_at.Goals as goal

pub loop-at-init : goal.loop-at-init
loop-at-init c = record {
  within = c.requires;
  rest = members_agree (has_bit c.empty-set.result.bits) (λ _. false) true c.args.start 0
      (drop c.args.start c.args.text.now) c.empty-set.ensures;
}

pub returns-then-closes-clause-exact : goal.returns-then-closes-clause-exact
returns-then-closes-clause-exact c =
    let test = has_bit c.loop-at.set.bits in
    sym (members_close test c.loop-at.first c.loop-at.at c.behind-rest.result.now
    (sym c.closes.ensures.exact ∙ c.if-closes.true))
    ∙ ap (λ text. members test c.loop-at.first c.loop-at.at 0 text) c.behind-rest.ensures
    ∙ c.loop-at.invariant.rest

pub loop-at-preserved : goal.loop-at-preserved
loop-at-preserved c =
    let rest = c.behind-rest.result.now in
    let more = length-drop c.loop-at.at c.args.text.now in
    let long : length rest ≡ length (drop c.loop-at.at c.args.text.now) = ap length c.behind-rest.ensures in
    let fits : c.in-Ok.taken ≤ length rest = c.in-Ok.ensures.within in
    record {
      within = omega arith;
      rest =
          ap (λ text. members (has_bit c.union.new.self.bits) false
          (c.loop-at.at + c.in-Ok.taken) 0 text)
          (sym (ap (drop c.in-Ok.taken) c.behind-rest.ensures ∙ drop-drop c.in-Ok.taken c.loop-at.at c.args.text.now))
          ∙ sym (members_given c.loop-at.set.bits c.union.new.self.bits c.loop-at.first c.loop-at.at
          c.in-Ok.taken rest (member rest) c.in-Ok.found refl c.in-Ok.ensures.exact c.union.ensures
          (sym c.closes.ensures.exact ∙ c.if-closes.false) c.in-Ok.ensures.some fits)
          ∙ ap (λ text. members (has_bit c.loop-at.set.bits) c.loop-at.first c.loop-at.at 0 text)
          c.behind-rest.ensures
          ∙ c.loop-at.invariant.rest;
    }

pub returns-in-Err-clause-exact : goal.returns-in-Err-clause-exact
returns-in-Err-clause-exact c =
    let rest = c.behind-rest.result.now in
    let test = has_bit c.loop-at.set.bits in
    let long : length rest ≡ length c.args.text.now - c.loop-at.at =
    ap length c.behind-rest.ensures ∙ length-drop c.loop-at.at c.args.text.now in
    sym (members_refused test c.loop-at.first c.loop-at.at rest c.in-Err.fault
    (sym c.closes.ensures.exact ∙ c.if-closes.false) (omega arith) c.in-Err.ensures.exact)
    ∙ ap (λ text. members test c.loop-at.first c.loop-at.at 0 text) c.behind-rest.ensures
    ∙ c.loop-at.invariant.rest

pub returns-clause-exact : goal.returns-clause-exact
returns-clause-exact c =
    let rest = drop c.loop-at.at c.args.text.now in
    let none : length rest ≡ 0 = omega (arith, length-drop c.loop-at.at c.args.text.now) in
    ap Err c.refused.ensures
    ∙ sym (members_end (has_bit c.loop-at.set.bits) c.loop-at.first c.loop-at.at rest none)
    ∙ c.loop-at.invariant.rest
