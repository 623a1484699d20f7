use Rattle.std.proofs.Common.{List, map}
use Rattle.ere_refs.specs.Machine.{PutsAll}
use Rattle.ere_refs.specs.declared.kept.State.{State}
use Rattle.ere_refs.proofs.lists.put_all.Given as goal

-- what is left to be put leads on to what all lead to
abbrev pub invariant-loop-caps : goal.invariant-loop-caps
invariant-loop-caps l =
    (last : List State) → PutsAll l.live (map (λ held. held.items) l.caps-iterator.rest.items) l.found.states.items last
    → PutsAll l.live (map (λ held. held.items) l.fn.lists.items) l.initial.found.states.items last
