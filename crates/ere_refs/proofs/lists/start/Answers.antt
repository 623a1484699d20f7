use Rattle.ere_refs.proofs.lists.start.Goals as goal

pub returns-clause-begins : goal.returns-clause-begins
returns-clause-begins c = (c.in_ok-caps.caps, c.in_ok-caps.ensures.items, c.in_ok-push.ensures.items)
