use Rattle.std.proofs.Common.{◌≡◌, ◌∙◌, drop, length, sym, ap, arith, false}
use Rattle.std.specs.Prelude.{Ok, Err, string_bytes}
use Rattle.std.proofs.lemmas.List.{length-map}
use Rattle.opt_words.specs.Reading.{givens_from}
use Rattle.opt_words.specs.Step.{StepsOn, texts}
use Rattle.opt_words.proofs.StepLemmas.{step_ends, step_fails, step_goes_on}
use Rattle.opt_words.proofs.table.Table.givens.Goals as goal

pub loop-all-preserved : goal.loop-all-preserved
loop-all-preserved g c =
    let kept = c.loop-all.invariant in
    let on : StepsOn g.row.N c.loop-all.at (texts c.args.words.now) c.in-Ok-Some.step =
    rw c.in-Ok-Some.field-0-is at c.in-Ok-Some.ensures.on in
    let words : length (texts c.args.words.now) ≡ length c.args.words.now = length-map c.args.words.now string_bytes in (
      omega (arith, on.within, words),
      λ due is. ap (λ all. givens_from c.args.self.now.rows c.args.self.now.stop_at_plain c.in-Ok-Some.step.next
          c.in-Ok-Some.step.only_plain false all (drop c.in-Ok-Some.step.next (texts c.args.words.now))) c.in-Ok.ensures.added
          ∙ step_goes_on c.args.self.now.rows c.args.self.now.stop_at_plain c.loop-all.only_plain c.loop-all.at c.loop-all.all due
          (texts c.args.words.now) c.in-Ok-Some.step g.row.N
          (sym c.step.ensures.value ∙ c.in-Ok-Some.is ∙ ap Ok c.in-Ok-Some.field-0-is) on (kept.1 due is),
      c.in-Ok.ensures.stand (texts c.args.words.now) on.stands kept.2,
    )

pub returns-in-Err-clause-all : goal.returns-in-Err-clause-all
returns-in-Err-clause-all g c = λ due is.
    let kept = c.loop-all.invariant.1 due is in
    let no = step_fails c.args.self.now.rows c.args.self.now.stop_at_plain c.loop-all.only_plain c.loop-all.at c.loop-all.all
    (drop c.loop-all.at (texts c.args.words.now)) c.in-Err.field-0 (sym c.step.ensures.value ∙ c.in-Err.is) in cc

pub returns-in-Ok-None-clause-all : goal.returns-in-Ok-None-clause-all
returns-in-Ok-None-clause-all g c = λ due is.
    let kept = c.loop-all.invariant.1 due is in
    let ends = step_ends c.args.self.now.rows c.args.self.now.stop_at_plain c.loop-all.only_plain c.loop-all.at c.loop-all.all
    (drop c.loop-all.at (texts c.args.words.now)) (sym c.step.ensures.value ∙ c.in-Ok-None.is ∙ ap Ok c.in-Ok-None.field-0-is) in cc
