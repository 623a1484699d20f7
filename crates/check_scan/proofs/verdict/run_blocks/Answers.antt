-- The loop over labels: nothing is done, a labelled block goes on, is missing or runs out of memory, and the last block ends
-- it. Each is one lemma of VerdictLemmas, at the block that the label ends.
-- The hard one is `loop-at-preserved`, which goes on behind a label.
use Rattle.std.proofs.Common.{All, ◌+◌, Ok, false, sym, subst}
use Rattle.std.proofs.lemmas.List.Elements.{All-drop, All-take}
use Rattle.check_group.specs.Changes.{IsReady}
use Rattle.check_scan.specs.Blocks.{FirstLabel, blocks_of}
use Rattle.check_scan.specs.Runs.{Turns, label_at, verdict_at}
use Rattle.check_scan.proofs.RunsLemmas.{runs_whole}
use Rattle.check_scan.proofs.VerdictLemmas.{label_left, label_on, label_over, label_ready, last_finishes}
use Rattle.check_scan.proofs.verdict.run_blocks.Goals as goal

pub loop-at-init : goal.loop-at-init
loop-at-init g c = record {
  here = c.requires.here;
  always_ready = c.requires.always_ready;
  ready = c.requires.ready;
  runs = runs_whole (verdict_at c.args.subject.now c.args.var_scope false (blocks_of c.args.checks.now) c.args.progress.now)
      c.args.progress.now;
}

pub run_labelled-requires-clause-label_ready : goal.run_labelled-requires-clause-label_ready
run_labelled-requires-clause-label_ready g c =
    let l = c.loop-at in
    subst (IsReady l.progress.vars) (sym c.index-rest-at.is)
    (l.invariant.ready c.in-Some.at c.index-rest-at.result c.in-Some.ensures.first.0)

pub run_labelled-requires-clause-ready : goal.run_labelled-requires-clause-ready
run_labelled-requires-clause-ready g c =
    let l = c.loop-at in
    subst (All (IsReady l.progress.vars)) (sym c.split_at.ensures.front)
    (All-take (IsReady l.progress.vars) (c.in-Some.at + 1) l.rest.now l.invariant.ready)

pub returns-in-Ok-Over : goal.returns-in-Ok-Over
returns-in-Ok-Over g c =
    let a = c.args in
    let l = c.loop-at in
    let label = c.index-rest-at.result in
    let block = c.split_at.result.0.now in
    label_over a.subject.now a.var_scope l.forget _ a.progress.now l.progress l.rest.now l.invariant.runs c.in-Some.at label block
    c.split_at.result.1.now c.run_labelled.new.progress c.in-Some.ensures.first c.index-rest-at.is c.split_at.ensures.front
    c.split_at.ensures.back
    (subst (λ t. Turns (label_at a.subject.now l.forget block label l.progress) l.progress c.run_labelled.new.progress (Ok t))
    c.in-Ok-Over.field-0-is c.in-Ok-Over.ensures.turns)

pub returns-in-Err : goal.returns-in-Err
returns-in-Err g c =
    let a = c.args in
    let l = c.loop-at in
    label_left a.subject.now a.var_scope l.forget _ a.progress.now l.progress l.rest.now l.invariant.runs c.in-Some.at
    c.index-rest-at.result c.split_at.result.0.now c.split_at.result.1.now c.run_labelled.new.progress c.in-Some.ensures.first
    c.index-rest-at.is c.split_at.ensures.front c.split_at.ensures.back _ c.in-Err.ensures.turns

pub loop-at-preserved : goal.loop-at-preserved
loop-at-preserved g c =
    let a = c.args in
    let l = c.loop-at in
    let whole = verdict_at a.subject.now a.var_scope false (blocks_of a.checks.now) a.progress.now in
    let label = c.index-rest-at.result in
    let block = c.split_at.result.0.now in
    let behind = c.split_at.result.1.now in
    let turns =
    subst (λ t. Turns (label_at a.subject.now l.forget block label l.progress) l.progress c.run_labelled.new.progress (Ok t))
    c.in-Ok-On.field-0-is c.in-Ok-On.ensures.turns in
    let ready_behind = label_ready a.subject.now a.var_scope l.forget whole a.progress.now l.progress l.rest.now l.invariant.runs
    c.in-Some.at label block behind c.run_labelled.new.progress c.in-Some.ensures.first c.index-rest-at.is c.split_at.ensures.front
    c.split_at.ensures.back in
    record {
      here = c.in-Ok-On.ensures.within;
      always_ready = ready_behind a.subject.now.always.now turns l.invariant.always_ready;
      ready = ready_behind behind turns
          (subst (All (IsReady l.progress.vars)) (sym c.split_at.ensures.back)
          (All-drop (IsReady l.progress.vars) (c.in-Some.at + 1) l.rest.now l.invariant.ready));
      runs = label_on a.subject.now a.var_scope l.forget whole a.progress.now l.progress l.rest.now l.invariant.runs c.in-Some.at label
          block behind c.run_labelled.new.progress c.in-Some.ensures.first c.index-rest-at.is c.split_at.ensures.front
          c.split_at.ensures.back turns;
    }

pub returns : goal.returns
returns g c =
    let a = c.args in
    let l = c.loop-at in
    last_finishes a.subject.now a.var_scope l.forget _ a.progress.now l.progress l.rest.now l.invariant.runs c.run.new.progress
    c.run.result (subst (FirstLabel l.rest.now) c.in_default.is c.next_label.ensures.first) c.run.ensures
