-- A block's loop: nothing is done, a NOT joins the pending ones, a part goes on, ends the block or runs out of memory, and
-- the end of the directives ends it. Each is one lemma of BlockLemmas, at the state of the loop as the code cuts it
-- (`runs_seen`). The hard one is `loop-check-preserved`.
use Rattle.std.proofs.Common.{rules, All, ◌≡◌, ◌≤◌, ◌++◌, ◌∷◌, [], Ok, length, take, drop, sym, ◌∙◌, subst, arith}
use Rattle.std.proofs.lemmas.List.Elements.{All-drop}
use Rattle.check_group.specs.Changes.{IsReady}
use Rattle.check_scan.specs.Parts.{IsNot, part_of, parts_of}
use Rattle.check_scan.specs.Runs.{Runs, Turns, block_at, part_at}
use Rattle.check_scan.proofs.BlockLemmas.{block_ends, block_not, next, parts_cut, runs_seen, turn_left, turn_on, turn_over, turn_ready}
use Rattle.check_scan.proofs.RunsLemmas.{runs_whole}
use Rattle.check_scan.proofs.block.run_block.Goals as goal

pub loop-check-init : goal.loop-check-init
loop-check-init g c = record {
  nots = omega arith;
  here = c.requires.here;
  always_ready = c.requires.always_ready;
  ready = c.requires.ready;
  runs = runs_whole (block_at c.args.subject.now (parts_of c.args.last c.args.checks.now) [] c.args.progress.now) c.args.progress.now;
}

pub returns-in_default : goal.returns-in_default
returns-in_default g c =
    let a = c.args in
    let l = c.loop-check in
    let whole = block_at a.subject.now (parts_of a.last a.checks.now) [] a.progress.now in
    let pending = c.split_at.result.0.now in
    let rest = c.split_at.result.1.now in
    let on = runs_seen a.subject.now a.last l.progress whole a.progress.now l.nots l.since.now rest pending c.split_at.ensures.back
    c.split_at.ensures.front l.invariant.runs in
    block_ends a.subject.now a.last l.progress whole a.progress.now rest pending on c.end_block.new.progress c.end_block.result
    (omega (arith, c.in_default.ensures.cases)) c.end_block.ensures

pub returns-in-Ok-Over : goal.returns-in-Ok-Over
returns-in-Ok-Over g c =
    let a = c.args in
    let l = c.loop-check in
    let whole = block_at a.subject.now (parts_of a.last a.checks.now) [] a.progress.now in
    let pending = c.split_at.result.0.now in
    let rest = c.split_at.result.1.now in
    let part = c.split_at-else-is_not.result.0.now in
    let behind = c.split_at-else-is_not.result.1.now in
    let on = runs_seen a.subject.now a.last l.progress whole a.progress.now l.nots l.since.now rest pending c.split_at.ensures.back
    c.split_at.ensures.front l.invariant.runs in
    let cut = parts_cut a.last rest part behind c.part_length.result (c.part_length.ensures.part a.last)
    c.split_at-else-is_not.ensures.front c.split_at-else-is_not.ensures.back in
    turn_over a.subject.now a.last l.progress whole a.progress.now rest pending on part behind c.turn.new.progress cut
    (subst (λ t. Turns (part_at a.subject.now (a.subject.now.always.now ++ pending) (part_of part) l.progress) l.progress
    c.turn.new.progress (Ok t)) c.in-Ok-Over.field-0-is c.in-Ok-Over.ensures.turns)

pub returns-in-Err : goal.returns-in-Err
returns-in-Err g c =
    let a = c.args in
    let l = c.loop-check in
    let whole = block_at a.subject.now (parts_of a.last a.checks.now) [] a.progress.now in
    let pending = c.split_at.result.0.now in
    let rest = c.split_at.result.1.now in
    let part = c.split_at-else-is_not.result.0.now in
    let behind = c.split_at-else-is_not.result.1.now in
    let on = runs_seen a.subject.now a.last l.progress whole a.progress.now l.nots l.since.now rest pending c.split_at.ensures.back
    c.split_at.ensures.front l.invariant.runs in
    let cut = parts_cut a.last rest part behind c.part_length.result (c.part_length.ensures.part a.last)
    c.split_at-else-is_not.ensures.front c.split_at-else-is_not.ensures.back in
    turn_left a.subject.now a.last l.progress whole a.progress.now rest pending on part behind c.turn.new.progress cut _
    c.in-Err.ensures.turns

pub loop-check-preserved : goal.loop-check-preserved
loop-check-preserved g c =
    let a = c.args in
    let l = c.loop-check in
    let whole = block_at a.subject.now (parts_of a.last a.checks.now) [] a.progress.now in
    let pending = c.split_at.result.0.now in
    let rest = c.split_at.result.1.now in
    let part = c.split_at-else-is_not.result.0.now in
    let behind = c.split_at-else-is_not.result.1.now in
    let on = runs_seen a.subject.now a.last l.progress whole a.progress.now l.nots l.since.now rest pending c.split_at.ensures.back
    c.split_at.ensures.front l.invariant.runs in
    let cut = parts_cut a.last rest part behind c.part_length.result (c.part_length.ensures.part a.last)
    c.split_at-else-is_not.ensures.front c.split_at-else-is_not.ensures.back in
    let turns =
    subst (λ t. Turns (part_at a.subject.now (a.subject.now.always.now ++ pending) (part_of part) l.progress) l.progress
    c.turn.new.progress (Ok t)) c.in-Ok-On.field-0-is c.in-Ok-On.ensures.turns in
    let ready_behind = turn_ready a.subject.now a.last l.progress whole a.progress.now rest pending on part behind c.turn.new.progress cut in
    record {
      nots = omega arith;
      here = c.turn.ensures.within;
      always_ready = ready_behind a.subject.now.always.now turns l.invariant.always_ready;
      ready = ready_behind behind turns
          (subst (All (IsReady l.progress.vars)) (sym c.split_at-else-is_not.ensures.back)
          (All-drop (IsReady l.progress.vars) c.part_length.result rest
          (subst (All (IsReady l.progress.vars)) (sym c.split_at.ensures.back)
          (All-drop (IsReady l.progress.vars) l.nots l.since.now l.invariant.ready))));
      runs = turn_on a.subject.now a.last l.progress whole a.progress.now rest pending on part behind c.turn.new.progress cut turns;
    }

pub loop-check-preserved-then-is_not : goal.loop-check-preserved-then-is_not
loop-check-preserved-then-is_not g c =
    let a = c.args in
    let l = c.loop-check in
    let check = c.in-Some.check.now in
    let behind = c.in-Some.field-0-1.now in
    let is : IsNot check = search (rules, c.if-is_not.ensures) in
    let seen : drop l.nots l.since.now ≡ check ∷ behind = sym c.split_at.ensures.back ∙ c.in-Some.ensures.cases.0 in
    record {
      nots = (next l.nots l.since.now behind check seen).2;
      here = l.invariant.here;
      always_ready = l.invariant.always_ready;
      ready = l.invariant.ready;
      runs = subst (λ e. Runs (block_at a.subject.now (parts_of a.last a.checks.now) [] a.progress.now) e a.progress.now l.progress)
          (block_not a.subject.now a.last l.progress l.nots l.since.now behind check seen is) l.invariant.runs;
    }
