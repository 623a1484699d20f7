use Rattle.std.proofs.Common.{◌∙◌, arith}
use Rattle.test_course.proofs.EntryLemmas.{kept_first, kept_none}
use Rattle.test_course.proofs.kept.kept_bytes.Goals as goal

pub loop-entry-preserved : goal.loop-entry-preserved
loop-entry-preserved c = record {
  most = omega (arith, c.min-kept.ensures);
  rest = kept_first c.loop-entry.rest.now c.in-Some.behind.now c.in-Some.entry.now c.loop-entry.kept c.min-kept.result
      c.in-Some.ensures.cases.0 (omega (arith, c.min-kept.ensures, c.own_bytes.ensures, c.reply_bytes.ensures))
      ∙ c.loop-entry.invariant.rest;
}

pub returns : goal.returns
returns c =
    kept_none c.loop-entry.rest.now c.loop-entry.kept c.in_default.ensures.cases c.loop-entry.invariant.most
    ∙ c.loop-entry.invariant.rest
