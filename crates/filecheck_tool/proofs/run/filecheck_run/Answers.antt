use Rattle.std.proofs.Common.{◌≡◌, ℕ, ◌^◌, arith, codes, refl}
use Rattle.tt_run.specs.Run.{files_of, source_of, stream_of}
use Rattle.tt_run.specs.Frame.{cannot_write}
use Rattle.filecheck_messages.specs.Answer.{answer_to}
use Rattle.filecheck_tool.specs.Run.{job_of}
use Rattle.filecheck_tool.proofs.FaultLemmas.{calm_of_answer, fault_of_answer, fault_of_run, fault_of_streams}
use Rattle.filecheck_tool.proofs.RunLemmas.{answer_of_run}
use Rattle.filecheck_tool.proofs.run.filecheck_run.Goals as goal

is_written : (status : ℕ) → status ≡ 3 → status ≡ 4 → ⊥
is_written status three four = omega (arith, three, four)

pub returns-clause-answer : goal.returns-clause-answer
returns-clause-answer g c status =
    let outcome = c.in-Ok.outcome in (
      answer_to outcome,
      answer_of_run g.F.Files c.args.from.now c.outcome_of.new.from (source_of g.I.Source c.args.input.now c.outcome_of.new.input)
          (job_of c.args.words.now) outcome (answer_to outcome) c.in-Ok.ensures.value refl,
      c.tell-status.ensures.written status,
    )

pub returns-clause-fault : goal.returns-clause-fault
returns-clause-fault g c is =
    let outcome = c.in-Ok.outcome in
    let found = c.in-Ok.ensures.value in
    fault_of_run (cannot_write (codes "filecheck")) (answer_to outcome) c.tell-status.result
    (stream_of g.O.Sink c.args.out.now c.tell-status.new.out) (stream_of g.E.Sink c.args.err.now c.tell-status.new.err)
    (fault_of_answer (files_of g.F.Files c.args.from.now found.0) (files_of g.F.Files found.0 c.outcome_of.new.from) (2 ^ 24)
    (job_of c.args.words.now) found.1 (source_of g.I.Source c.args.input.now c.outcome_of.new.input) (2 ^ 26) outcome refl found.2 found.4
    (answer_to outcome) refl)
    (c.tell-status.ensures.written (is_written c.tell-status.result is)) is

pub returns-clause-calm : goal.returns-clause-calm
returns-clause-calm g c first steady is =
    let outcome = c.in-Ok.outcome in
    let found = c.in-Ok.ensures.value in
    fault_of_streams (cannot_write (codes "filecheck")) (answer_to outcome) c.tell-status.result
    (stream_of g.O.Sink c.args.out.now c.tell-status.new.out) (stream_of g.E.Sink c.args.err.now c.tell-status.new.err)
    (calm_of_answer (files_of g.F.Files c.args.from.now found.0) (files_of g.F.Files found.0 c.outcome_of.new.from) (2 ^ 24)
    (job_of c.args.words.now) found.1 (source_of g.I.Source c.args.input.now c.outcome_of.new.input) (2 ^ 26) outcome refl found.2 found.4
    first (found.3.1 first) steady (answer_to outcome) refl)
    (c.tell-status.ensures.written (is_written c.tell-status.result is)) is
