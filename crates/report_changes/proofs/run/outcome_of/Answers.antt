use Rattle.std.proofs.Common.{Ok, Err, sym, ◌∙◌, ap}
use Rattle.json_report.specs.Changes.{changes}
use Rattle.opt_words.specs.Step.{texts}
use Rattle.report_changes.specs.Run.{compared}
use Rattle.report_changes.specs.declared.stop.ChangesStop.TheVariants.{Report}
use Rattle.report_changes.proofs.RunLemmas.{new_read, old_refused}
use Rattle.report_changes.proofs.run.outcome_of.Goals as goal

pub returns-in-Err-2-clause-value : goal.returns-in-Err-2-clause-value
returns-in-Err-2-clause-value g c =
    old_refused g.F.Files c.args.files.now c.report_from.new.files (texts c.args.words.now) c.in-Ok.asked
    (sym c.in_ok-asked.ensures.value ∙ c.in-Ok.is) c.word_at.result.now c.word_at.ensures c.in_ok-lines.field-0 c.in_ok-lines.ensures.read
    c.in_ok-lines.ensures.files_stay c.in-Err-2.unread c.in-Err-2.is

pub returns-in-Err-3-clause-value : goal.returns-in-Err-3-clause-value
returns-in-Err-3-clause-value g c =
    new_read g.F.Files c.args.files.now c.report_from.new.files (texts c.args.words.now) c.in-Ok.asked
    (sym c.in_ok-asked.ensures.value ∙ c.in-Ok.is) c.word_at.result.now c.word_at.ensures c.in_ok-lines.field-0 c.in_ok-lines.ensures.read
    c.in_ok-lines.ensures.files_stay c.report_from-2.new.files c.in-Ok-2.lines c.in-Ok-2.is c.word_at-2.result.now c.word_at-2.ensures
    c.in_ok-lines-2.field-0 c.in_ok-lines-2.ensures.read (Err (Report c.in-Ok.asked.new c.in-Err-3.unread))
    (sym (ap (compared c.in-Ok.asked.new c.in-Ok-2.lines) c.in-Err-3.is))

pub returns-clause-value : goal.returns-clause-value
returns-clause-value g c =
    new_read g.F.Files c.args.files.now c.report_from.new.files (texts c.args.words.now) c.in-Ok.asked
    (sym c.in_ok-asked.ensures.value ∙ c.in-Ok.is) c.word_at.result.now c.word_at.ensures c.in_ok-lines.field-0 c.in_ok-lines.ensures.read
    c.in_ok-lines.ensures.files_stay c.report_from-2.new.files c.in-Ok-2.lines c.in-Ok-2.is c.word_at-2.result.now c.word_at-2.ensures
    c.in_ok-lines-2.field-0 c.in_ok-lines-2.ensures.read (Ok c.in_ok-changes.field-0)
    (ap Ok c.in_ok-changes.ensures
    ∙ ap (λ one. Ok (changes one c.as_slice-2.result.now)) c.as_slice.ensures
    ∙ ap (λ one. Ok (changes c.in-Ok-2.lines one)) c.as_slice-2.ensures
    ∙ sym (ap (compared c.in-Ok.asked.new c.in-Ok-2.lines) c.in-Ok-3.is))
