use Rattle.std.proofs.Common.{arith, sym, ◌∙◌}
use Rattle.num_exprs.proofs.RowLemmas.{name_begins}
use Rattle.num_exprs.proofs.names.name_at.Goals as goal

pub returns-then-begins_name-clause-some : goal.returns-then-begins_name-clause-some
returns-then-begins_name-clause-some c =
    omega (
      arith,
      name_begins c.behind-rest.result.now (sym c.begins_name.ensures ∙ c.if-begins_name.true),
      c.row_length.ensures.exact,
    )
