use Rattle.std.proofs.Common.{◌<◌, length, rules}
use Rattle.make_checks.proofs.AddLemmas.{refused}
use Rattle.make_checks.proofs.KeptLemmas.{kept_first, kept_last, kept_more, some_bytes}
use Rattle.make_checks.proofs.kept.free_lines.Goals as goal

pub returns-in-Err : goal.returns-in-Err
returns-in-Err c =
    let l = c.loop-rest in
    let some : 0 < length l.rest.now = some_bytes l.rest.now c.is_empty.result c.is_empty.ensures c.loop-rest-test.true in
    refused _ _ _ c.in-Err.fail
    (kept_first c.args.prefixes.now.checks.prefixes.now c.args.prefixes.now.comments.prefixes.now l.text _ l.rest.now
    c.first_line.result.0.now c.first_line.result.1 some c.first_line.ensures.split l.invariant.so_far)
    c.in-Err.ensures

pub returns-in-None : goal.returns-in-None
returns-in-None c =
    let l = c.loop-rest in
    let some : 0 < length l.rest.now = some_bytes l.rest.now c.is_empty.result c.is_empty.ensures c.loop-rest-test.true in (
      kept_last c.args.prefixes.now.checks.prefixes.now c.args.prefixes.now.comments.prefixes.now _ c.keep.new.text _ c.first_line.result.1
          (kept_first c.args.prefixes.now.checks.prefixes.now c.args.prefixes.now.comments.prefixes.now l.text _ l.rest.now
          c.first_line.result.0.now c.first_line.result.1 some c.first_line.ensures.split l.invariant.so_far)
          c.in-None.is c.in-Ok.ensures.0,
      c.in-Ok.ensures.1,
    )

pub loop-rest-preserved : goal.loop-rest-preserved
loop-rest-preserved c =
    let l = c.loop-rest in
    let some : 0 < length l.rest.now = some_bytes l.rest.now c.is_empty.result c.is_empty.ensures c.loop-rest-test.true in
    record {
      so_far = kept_more c.args.prefixes.now.checks.prefixes.now c.args.prefixes.now.comments.prefixes.now _ c.keep.new.text _
          c.first_line.result.1 c.in-Some.behind
          (kept_first c.args.prefixes.now.checks.prefixes.now c.args.prefixes.now.comments.prefixes.now l.text _ l.rest.now
          c.first_line.result.0.now c.first_line.result.1 some c.first_line.ensures.split l.invariant.so_far)
          c.in-Some.is c.in-Ok.ensures.0;
      small = c.in-Ok.ensures.1;
      short = search rules;
    }
