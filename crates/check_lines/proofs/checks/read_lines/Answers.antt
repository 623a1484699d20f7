use Rattle.std.proofs.Common.{◌<◌, ◌≤◌, length, refl, arith}
use Rattle.check_lines.proofs.ChecksLemmas.{end_within, first_refused, hold_last, placed_last, placed_refused, read_last, read_next, read_refused}
use Rattle.check_lines.proofs.checks.read_lines.Goals as goal

pub returns-in-Err : goal.returns-in-Err
returns-in-Err c =
    let checks = c.args.rules.now.prefixes.checks.prefixes.now in
    let comments = c.args.rules.now.prefixes.comments.prefixes.now in
    let keep = c.args.rules.now.keep_blanks in
    let text = c.args.text.now in
    let old = c.loop-found.directives in
    let new = c.add_line.new.directives in
    let earlier = c.loop-found.earlier in
    let number = c.loop-found.number in
    let start = c.loop-found.start in
    let end = c.line_of-end.result.to in
    let is = c.line_of-end.ensures.to in
    record {
      by_lines = first_refused checks comments keep text old new earlier earlier number start end _ c.loop-found.invariant is refl
          c.in-Err.fail c.in-Err.ensures.err;
      value = read_refused checks comments keep text old new earlier earlier number start end _ c.loop-found.invariant is refl
          c.in-Err.fail c.in-Err.ensures.err;
      placed = placed_refused checks comments keep text old new earlier earlier number start end _ c.loop-found.invariant is refl
          c.in-Err.fail c.in-Err.ensures.err c.in-Err.ensures.lies;
    }

pub returns-then-end-text : goal.returns-then-end-text
returns-then-end-text c =
    let checks = c.args.rules.now.prefixes.checks.prefixes.now in
    let comments = c.args.rules.now.prefixes.comments.prefixes.now in
    let keep = c.args.rules.now.keep_blanks in
    let text = c.args.text.now in
    let old = c.loop-found.directives in
    let new = c.add_line.new.directives in
    let found = c.in-Ok.found in
    let earlier = c.loop-found.earlier in
    let number = c.loop-found.number in
    let start = c.loop-found.start in
    let end = c.line_of-end.result.to in
    let is = c.line_of-end.ensures.to in
    record {
      by_lines = hold_last checks comments keep text old new found earlier number start end _ c.loop-found.invariant is refl
          c.in-Ok.ensures.ok c.in-Ok.ensures.lies c.in-Ok.ensures.among c.if-end-text.true;
      value = read_last checks comments keep text old new found earlier number start end _ c.loop-found.invariant is refl
          c.in-Ok.ensures.ok c.in-Ok.ensures.lies c.in-Ok.ensures.among c.if-end-text.true;
      placed = placed_last checks comments keep text old new found earlier number start end _ c.loop-found.invariant is refl
          c.in-Ok.ensures.ok c.in-Ok.ensures.lies c.in-Ok.ensures.among;
    }

pub loop-found-preserved : goal.loop-found-preserved
loop-found-preserved c =
    let text = c.args.text.now in
    let start = c.loop-found.start in
    let end = c.line_of-end.result.to in
    let is = c.line_of-end.ensures.to in
    let within : end ≤ length text = end_within text start end c.loop-found.invariant.begins.within is in
    let inside : end < length text = omega arith in
    read_next c.args.rules.now.prefixes.checks.prefixes.now c.args.rules.now.prefixes.comments.prefixes.now c.args.rules.now.keep_blanks text
    c.loop-found.directives c.add_line.new.directives c.in-Ok.found c.loop-found.earlier c.loop-found.number start end _
    c.loop-found.invariant is refl c.in-Ok.ensures.ok c.in-Ok.ensures.lies c.in-Ok.ensures.among inside
