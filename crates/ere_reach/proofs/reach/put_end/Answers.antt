use Rattle.ere_reach.proofs.reach.put_end.Goals as goal

pub returns-clause-closed : goal.returns-clause-closed
returns-clause-closed c = (c.in_ok-part.part, c.in_ok-part.ensures.tells, c.in_ok-keep_with.ensures)

pub returns-clause-put : goal.returns-clause-put
returns-clause-put c = rw c.as_slice.ensures.value at c.in_ok-put.ensures.put
