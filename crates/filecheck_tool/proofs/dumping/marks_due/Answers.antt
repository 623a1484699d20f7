use Rattle.std.proofs.Common.{◌∙◌}
use Rattle.filecheck_tool.proofs.DumpLemmas.{all_labelled}
use Rattle.filecheck_tool.proofs.dumping.marks_due.Goals as goal

pub marks-requires : goal.marks-requires
marks-requires c = record {
  labelled = all_labelled c.args.file.now c.as_slice.result.now c.args.faults.now (c.as_slice.ensures ∙ c.in_ok-labels.ensures)
      c.requires.numbers;
}
