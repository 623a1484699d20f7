use Rattle.std.proofs.Common.{◌+◌, ◌<◌, length, sym, subst}
use Rattle.filecheck_tool.specs.Program.{ArePatterns}
use Rattle.filecheck_messages.specs.Refusal.{Ends}
use Rattle.filecheck_tool.proofs.NumberLemmas.{refused_number}
use Rattle.filecheck_tool.proofs.ProgramLemmas.{patterns_are, patterns_refused}
use Rattle.filecheck_tool.proofs.program.patterns_of.Goals as goal

pub returns-in-Ok-clause-value : goal.returns-in-Ok-clause-value
returns-in-Ok-clause-value c =
    patterns_are c.args.file.now c.args.known.now c.compile.new.known c.frame_by.result c.as_slice.result.now
    c.as_slice-2.result.now c.as_slice-3.result.now c.frame_by.ensures c.as_slice.ensures c.as_slice-2.ensures
    c.as_slice-3.ensures c.in-Ok.patterns c.in-Ok.ensures.compiled

pub returns-in_ok-bad_body-in-Err-Bad-clause-value : goal.returns-in_ok-bad_body-in-Err-Bad-clause-value
returns-in_ok-bad_body-in-Err-Bad-clause-value c =
    subst (λ end. Ends end (ArePatterns c.args.file.now c.args.known.now)) (sym c.refuse.ensures)
    (patterns_refused c.args.file.now c.args.known.now c.compile.new.known c.frame_by.result c.as_slice.result.now
    c.as_slice-2.result.now c.as_slice-3.result.now c.frame_by.ensures c.as_slice.ensures c.as_slice-2.ensures
    c.as_slice-3.ensures c.in-Err-Bad.directive c.in-Err-Bad.fault c.in_ok-bad_body-in-Err-Bad.field-0
    (rw c.in-Err-Bad.field-0-is at c.in-Err-Bad.ensures.compiled) c.in_ok-bad_body-in-Err-Bad.ensures)

pub bad_body-requires-clause-number : goal.bad_body-requires-clause-number
bad_body-requires-clause-number c =
    let asked = c.args.file.now.asked in
    let number = c.in-Err-Bad.directive in
    let low = refused_number (record { fold = asked.fold; frame = c.frame_by.result }) c.args.known.now c.compile.new.known
    c.as_slice.result.now c.as_slice-2.result.now c.as_slice-3.result.now number c.in-Err-Bad.fault
    (rw c.in-Err-Bad.field-0-is at c.in-Err-Bad.ensures.compiled) in
    subst (λ lines. number < length lines + length asked.implicit) c.as_slice-2.ensures
    (subst (λ others. number < length c.as_slice-2.result.now + length others) c.as_slice-3.ensures low)
