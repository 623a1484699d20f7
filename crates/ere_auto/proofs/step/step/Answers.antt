use Rattle.std.proofs.Common.{ℕ, ◌<◌, List, length, subst}
use Rattle.ere_table.specs.Node.{node_at}
use Rattle.ere_auto.specs.Closure.{origin_in, Closed, MetFirst, CutAt}
use Rattle.ere_auto.specs.Moved.{Moved}
use Rattle.ere_auto.specs.declared.thread.Thread.{Thread}
use Rattle.ere_auto.proofs.StepLemmas.{made_is_step}
use Rattle.ere_auto.proofs.MoveLemmas.{moved_within}
use Rattle.ere_auto.proofs.step.step.Goals as goal

pub returns-clause-step : goal.returns-clause-step
returns-clause-step c =
    let T = node_at c.args.table.now.nodes.items in
    let S : List Thread = c.seed-begun.new.threads.items in
    let R : List Thread = c.close.new.reached.held.items in
    let L : List Thread = c.go_on-moves.new.moved.held.items in
    let used = c.go_on-moves.result.used in
    let met = c.go_on-moves.result.met in
    let first = c.as_slice.ensures.value in
    let second = c.as_slice-seeds.ensures.value in
    let third = c.as_slice-opened.ensures.value in
    made_is_step T c.args.table.now.entry c.args.threads.now.items L c.args.around.line c.args.around.searching
    c.args.around.next c.seed-begun.result met (record {
      seeds = S;
      reached = R;
      used = used;
      seeded = c.seed-begun.ensures.seeds;
      free = c.seed-begun.ensures.free;
      closed =
          subst (λ x. Closed c.args.around.line x T S R) c.ends_line-ends.ensures
          (subst (λ x. Closed c.args.around.line c.ends_line-ends.result T x R) first c.close.ensures.closed);
      moved =
          subst (λ x. Moved T x R L c.args.around.next used) second
          (subst (λ x. Moved T c.as_slice-seeds.result.now x L c.args.around.next used) third c.go_on-moves.ensures.moved);
      stopped =
          subst (λ x. MetFirst x R used met) second
          (subst (λ x. MetFirst c.as_slice-seeds.result.now x used met) third c.go_on-moves.ensures.met);
      cut =
          subst (λ x. CutAt x R used met) second
          (subst (λ x. CutAt c.as_slice-seeds.result.now x used met) third c.go_on-moves.ensures.cut);
    })

pub returns-clause-within : goal.returns-clause-within
returns-clause-within c =
    let T = node_at c.args.table.now.nodes.items in
    let S : List Thread = c.seed-begun.new.threads.items in
    let R : List Thread = c.close.new.reached.held.items in
    let L : List Thread = c.go_on-moves.new.moved.held.items in
    let used = c.go_on-moves.result.used in
    moved_within T S R L c.args.around.next used (length c.args.slots.now)
    (subst (λ x. Moved T x R L c.args.around.next used) c.as_slice-seeds.ensures.value
    (subst (λ x. Moved T c.as_slice-seeds.result.now x L c.args.around.next used) c.as_slice-opened.ensures.value
    c.go_on-moves.ensures.moved))
    (subst (λ x. (y : ℕ) → y < length R → origin_in R y < length x) c.as_slice.ensures.value c.close.ensures.closed.from)
    c.seed-begun.ensures.within
