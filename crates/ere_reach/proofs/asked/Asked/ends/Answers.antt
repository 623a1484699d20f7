use Rattle.std.proofs.Common.{sym, subst}
use Rattle.std.proofs.lemmas.Option.{same_Some}
use Rattle.ere_auto.specs.Seen.{IsFor}
use Rattle.ere_auto.specs.State.{state_of}
use Rattle.ere_tree.specs.View.{view}
use Rattle.ere_reach.proofs.asked.Asked.ends.Goals as goal

pub ends_by-requires-clause-expression : goal.ends_by-requires-clause-expression
ends_by-requires-clause-expression c = (view c.args.self.now.ere.now, c.in_ok-automaton.ensures.built)

pub returns-clause-ends : goal.returns-clause-ends
returns-clause-ends c = c.in_ok-found.ensures.ends (view c.args.self.now.ere.now) c.in_ok-automaton.ensures.built

pub returns-clause-built : goal.returns-clause-built
returns-clause-built c = λ automaton is.
    subst (λ e. IsFor (state_of automaton) (view e.now)) (sym c.take.ensures.expression)
    (subst (λ a. IsFor (state_of a) (view c.args.self.now.ere.now)) (same_Some c.ends_by.new.automaton automaton is)
    (c.in_ok-found.ensures.kept (view c.args.self.now.ere.now) c.in_ok-automaton.ensures.built))
