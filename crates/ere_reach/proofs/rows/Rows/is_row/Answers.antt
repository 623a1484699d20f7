use Rattle.std.proofs.Common.{◌<◌, length, refl, sym, ◌∙◌, arith}
use Rattle.std.proofs.lemmas.Option.{slice_get_read}
use Rattle.ere_reach.proofs.rows.Rows.is_row.Goals as goal

pub returns-then-index-len : goal.returns-then-index-len
returns-then-index-len c = λ same.
    let rows = c.args.self.now.rows.items in
    let low : c.args.index < length rows = omega (arith, c.if-index-len.true, c.len.ensures, c.args.self.now.rows.ok) in (
      c.index.result.now,
      slice_get_read rows (length rows) c.args.index c.index.result.now refl low c.index.ensures,
      sym c.as_slice.ensures.value ∙ c.are_same.ensures same,
    )
