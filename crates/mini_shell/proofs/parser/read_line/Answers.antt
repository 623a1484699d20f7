use Rattle.mini_shell.proofs.ReadingLemmas.{one_more, over, refused_here, refused_step}
use Rattle.mini_shell.proofs.parser.read_line.Goals as goal

pub returns-in-Err-step : goal.returns-in-Err-step
returns-in-Err-step c =
    let is = rw c.in-Ok-Found.field-0-is at c.in-Ok-Found.ensures.exact in
    record {
      reading = refused_step c.args.text.now c.loop-token.at c.in-Ok-Found.end c.loop-token.reader c.in-Ok-Found.token
          c.in-Err-step.fail c.loop-token.invariant.rest is c.in-Err-step.ensures;
    }

pub loop-token-preserved : goal.loop-token-preserved
loop-token-preserved c =
    let is = rw c.in-Ok-Found.field-0-is at c.in-Ok-Found.ensures.exact in
    let onward = rw c.in-Ok-Found.field-0-is at c.in-Ok-Found.ensures.onward in
    record {
      within = onward.1;
      rest = one_more c.args.text.now c.loop-token.at c.in-Ok-Found.end c.loop-token.reader c.in-Ok.next
          c.in-Ok-Found.token c.loop-token.invariant.rest is c.in-Ok.ensures;
    }

pub returns-in-Ok-Over : goal.returns-in-Ok-Over
returns-in-Ok-Over c =
    let is = rw c.in-Ok-Over.field-0-is at c.in-Ok-Over.ensures.exact in
    record {
      reading = over c.args.text.now c.loop-token.at c.in-Ok-Over.end c.loop-token.reader c.ended.result
          c.loop-token.invariant.rest is c.ended.ensures;
    }

pub returns-in-Err : goal.returns-in-Err
returns-in-Err c = record {
  reading = refused_here c.args.text.now c.loop-token.at c.loop-token.reader c.in-Err.fail c.loop-token.invariant.rest
      c.in-Err.ensures.exact;
}
