use Rattle.std.proofs.Common.{inr}
use Rattle.lit_tool.proofs.answer.refuse.Goals as goal

pub returns : goal.returns
returns g c =
    let told = rw c.as_slice.ensures at c.answer_on.ensures.answered in
    inr (rw c.in-Ok.ensures at (rw c.status_of.ensures.value at told))
