use Rattle.std.proofs.Common.{arith}
use Rattle.input_dump.proofs.NewlineLemmas.{last_begins, text_begins}
use Rattle.input_dump.proofs.newlines.line_begin.Goals as goal

pub returns-in-Some : goal.returns-in-Some
returns-in-Some c =
    let found = last_begins c.args.text.now c.args.at c.requires c.in-Some.newline c.in-Some.ensures in
    record { begins = found.0; same = found.1; within = found.2 }

pub returns-in-None : goal.returns-in-None
returns-in-None c = record {
  begins = λ some. absurd (omega (arith, some));
  same = text_begins c.args.text.now c.args.at c.requires c.in-None.ensures;
  within = omega arith;
}
