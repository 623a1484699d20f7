use Rattle.std.proofs.Common.{◌≡◌, ◌+◌, map, arith}
use Rattle.check_program.proofs.BodyLemmas.{mapped_here}
use Rattle.check_program.proofs.CompileLemmas.{next_fails, next_is}
use Rattle.check_program.specs.Compiled.{Body, body_of}
use Rattle.check_program.proofs.compiling.of_lines.Goals as goal

pub returns-in-Err : goal.returns-in-Err
returns-in-Err c =
    let a = c.args in
    let l = c.loop-number in
    let directive = c.index-directives-number.result in
    let at : l.number ≡ 0 + l.number = omega arith in
    let due : Body = body_of a.text.now directive in
    let body : Body = record { bytes = due.bytes; demand = c.row_of.result.demand; literal = due.literal; line = due.line } in
    let same : body ≡ due =
    (λ n. record { bytes = due.bytes; demand = c.row_of.ensures.demand n; literal = due.literal; line = due.line }) in
    next_fails a.opts.now 0 a.known.now l.known (map (body_of a.text.now) a.directives.now) l.checks l.number l.number at
    body _ (mapped_here (body_of a.text.now) l.number a.directives.now directive body c.loop-number-test.true
    c.index-directives-number.is same) l.invariant c.in-Err.fail c.add_check.new.checks c.add_check.new.known c.in-Err.ensures

pub loop-number-preserved : goal.loop-number-preserved
loop-number-preserved c =
    let a = c.args in
    let l = c.loop-number in
    let directive = c.index-directives-number.result in
    let at : l.number ≡ 0 + l.number = omega arith in
    let due : Body = body_of a.text.now directive in
    let body : Body = record { bytes = due.bytes; demand = c.row_of.result.demand; literal = due.literal; line = due.line } in
    let same : body ≡ due =
    (λ n. record { bytes = due.bytes; demand = c.row_of.ensures.demand n; literal = due.literal; line = due.line }) in
    next_is a.opts.now 0 a.known.now l.known (map (body_of a.text.now) a.directives.now) l.checks l.number l.number at
    body _ (mapped_here (body_of a.text.now) l.number a.directives.now directive body c.loop-number-test.true
    c.index-directives-number.is same) l.invariant c.add_check.new.checks c.add_check.new.known c.in-Ok.ensures
