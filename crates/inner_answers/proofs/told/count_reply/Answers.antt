use Rattle.std.proofs.Common.{◌≡◌, ◌≢◌, ◌∙◌, ap, arith}
use Rattle.opt_words.specs.Step.{texts}
use Rattle.not_count.specs.Asked.{asked}
use Rattle.tt_outside.specs.Memory.{sink_bytes, source_left}
use Rattle.tt_outside.specs.declared.plan.Plan.{Plan}
use Rattle.inner_answers.specs.Told.{compared, reply_within}
use Rattle.inner_answers.proofs.CountLemmas.{outcome_known, told_large, told_whole}
use Rattle.inner_answers.proofs.told.count_reply.Goals as goal

pub returns-in-3 : goal.returns-in-3
returns-in-3 c =
    let words = texts c.args.words.now in
    let source = c.in_ok-source.source in
    let told = c.count_run.ensures.answer in
    let outcome : told.0 ≡ compared (asked words) c.args.input.now =
    outcome_known _ _ (source_left source) (source_left c.count_run.new.input) _ _ (asked words) told.0
    (ap (λ (plan : Plan). plan.fails) c.in_ok-source.ensures.plan) told.1
    ∙ ap (compared (asked words)) c.in_ok-source.ensures.left in
    told_large words c.args.input.now (sink_bytes c.in_ok-err.err) (sink_bytes c.count_run.new.err) c.count_run.result _ _ _
    c.args.limit told.0 outcome c.in_ok-err.ensures.room c.in-3.is told.2

pub returns : goal.returns
returns c =
    let words = texts c.args.words.now in
    let source = c.in_ok-source.source in
    let told = c.count_run.ensures.answer in
    let outcome : told.0 ≡ compared (asked words) c.args.input.now =
    outcome_known _ _ (source_left source) (source_left c.count_run.new.input) _ _ (asked words) told.0
    (ap (λ (plan : Plan). plan.fails) c.in_ok-source.ensures.plan) told.1
    ∙ ap (compared (asked words)) c.in_ok-source.ensures.left in
    let calm : c.count_run.result ≢ 3 = λ three. omega arith in
    let whole = told_whole words c.args.input.now (sink_bytes c.in_ok-err.err) (sink_bytes c.count_run.new.err) c.count_run.result _ _ _
    c.args.limit told.0 outcome c.in_ok-err.ensures.bytes calm told.2 in
    c.in_ok-reply-in_default.ensures
    ∙ ap (reply_within c.args.limit)
    ((λ i. record { out = c.new-in_default.ensures i; err = c.into_bytes.ensures i; status = c.count_run.result }) ∙ whole)
