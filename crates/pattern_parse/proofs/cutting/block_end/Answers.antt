use Rattle.std.proofs.Common.{arith, sym, ◌∙◌}
use Rattle.pattern_parse.proofs.EndLemmas.{block_more}
use Rattle.pattern_parse.proofs.cutting.block_end.Goals as goal

pub loop-count-preserved : goal.loop-count-preserved
loop-count-preserved c = record {
  within = omega arith;
  shallow = omega (arith, c.in-Some.ensures.small);
  rest =
      block_more c.args.text.now c.loop-count.count c.loop-count.depth c.loop-count.hidden
      (c.in-Some.open, c.in-Some.slash) c.loop-count-test.true (sym c.in-Some.ensures.exact)
      ∙ c.loop-count.invariant.rest;
}
