use Rattle.std.proofs.Common.{◌≡◌, ◌∙◌, sym, arith, false, true}
use Rattle.std.specs.Str.{bytes_eq}
use Rattle.lit_paths.proofs.AboveLemmas.{above_next, above_ends}
use Rattle.lit_paths.proofs.writing.is_above.Goals as goal

pub returns-then-ne : goal.returns-then-ne
returns-then-ne c =
    let differ : bytes_eq c.part-item.result c.in-Some.first.now ≡ false = grind arith in
    sym (sym c.loop-part.invariant
    ∙ above_ends c.args.dir.now c.loop-part.rest.now c.in-Some.behind.now c.loop-part.part-index c.part-item.result
    c.in-Some.first.now (omega arith) c.part-item.is c.in-Some.ensures.cases.0 differ)

pub loop-part-preserved : goal.loop-part-preserved
loop-part-preserved c =
    let same : bytes_eq c.part-item.result c.in-Some.first.now ≡ true = grind arith in
    above_next c.args.dir.now c.loop-part.rest.now c.in-Some.behind.now c.loop-part.part-index c.part-item.result
    c.in-Some.first.now (omega arith) c.part-item.is c.in-Some.ensures.cases.0 same
    ∙ c.loop-part.invariant
