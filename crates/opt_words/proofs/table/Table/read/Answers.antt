use Rattle.std.proofs.Common.{◌≡◌, ◌∙◌, length, drop, sym, subst, ap, refl, arith}
use Rattle.std.specs.Prelude.{Ok, Err, string_bytes}
use Rattle.std.proofs.lemmas.List.{length-map}
use Rattle.opt_words.specs.Reading.{Reads, behind}
use Rattle.opt_words.specs.Step.{StepsOn, texts}
use Rattle.opt_words.proofs.StepLemmas.{length-behind, step_ends, step_fails, step_leads, step_takes_twice}
use Rattle.opt_words.proofs.table.Table.read.Goals as goal

pub returns-in-Err-clause-read : goal.returns-in-Err-clause-read
returns-in-Err-clause-read g c =
    let kept = c.loop-fault.invariant in
    subst (λ read. Reads g.row.N read (Err c.in-Err.fault))
    (sym (step_fails c.args.self.now.rows c.args.self.now.stop_at_plain c.loop-fault.only_plain c.loop-fault.at kept.0
    (drop c.loop-fault.at (texts c.args.words.now)) c.in-Err.fault (sym c.step.ensures.value ∙ c.in-Err.is))
    ∙ kept.4)
    refl

pub returns-in-Ok-None-clause-read : goal.returns-in-Ok-None-clause-read
returns-in-Ok-None-clause-read g c =
    let kept = c.loop-fault.invariant in
    subst (λ read. Reads g.row.N read (Ok c.loop-fault.settings))
    (sym (step_ends c.args.self.now.rows c.args.self.now.stop_at_plain c.loop-fault.only_plain c.loop-fault.at kept.0
    (drop c.loop-fault.at (texts c.args.words.now))
    (sym c.step.ensures.value ∙ c.in-Ok-None.is ∙ ap Ok c.in-Ok-None.field-0-is))
    ∙ kept.4)
    kept.1

pub returns-in-Err-join-clause-read : goal.returns-in-Err-join-clause-read
returns-in-Err-join-clause-read g c =
    let kept = c.loop-fault.invariant in
    subst (λ read. Reads g.row.N read (Err c.in-Err-join.fault))
    (sym (step_takes_twice c.args.self.now.rows c.args.self.now.stop_at_plain c.loop-fault.only_plain c.loop-fault.at kept.0
    (drop c.loop-fault.at (texts c.args.words.now)) c.in-Ok-Some.step c.in-Err-join.fault
    (sym c.step.ensures.value ∙ c.in-Ok-Some.is ∙ ap Ok c.in-Ok-Some.field-0-is)
    (c.in-Err-join.ensures.err kept.0 kept.1))
    ∙ kept.4)
    refl

pub loop-fault-preserved : goal.loop-fault-preserved
loop-fault-preserved g c =
    let kept = c.loop-fault.invariant in
    let on : StepsOn g.row.N c.loop-fault.at (texts c.args.words.now) c.in-Ok-Some.step =
    rw c.in-Ok-Some.field-0-is at c.in-Ok-Some.ensures.on in
    let next = c.in_default.ensures.ok kept.0 kept.1 in
    let words : length (texts c.args.words.now) ≡ length c.args.words.now = length-map c.args.words.now string_bytes in (
      behind kept.0 c.in-Ok-Some.step.given,
      next.1,
      omega (arith, length-behind kept.0 c.in-Ok-Some.step.given, kept.2, on.onward),
      omega (arith, on.within, words),
      sym (step_leads c.args.self.now.rows c.args.self.now.stop_at_plain c.loop-fault.only_plain c.loop-fault.at kept.0
          (texts c.args.words.now) c.in-Ok-Some.step g.row.N
          (sym c.step.ensures.value ∙ c.in-Ok-Some.is ∙ ap Ok c.in-Ok-Some.field-0-is) next.0 on)
          ∙ kept.4,
      c.in_default.ensures.stand (texts c.args.words.now) on.stands kept.5,
    )
