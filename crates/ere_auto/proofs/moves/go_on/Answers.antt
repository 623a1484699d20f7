use Rattle.std.proofs.Common.{◌+◌, ◌<◌, sym, ap, subst, arith, refl}
use Rattle.ere_table.specs.Node.{node_of, node_at}
use Rattle.ere_auto.specs.Closure.{node_in, origin_in, MetFirst}
use Rattle.ere_auto.specs.Threads.{Took}
use Rattle.ere_auto.proofs.ListLemmas.{node_read}
use Rattle.ere_auto.proofs.MoveLemmas.{moved_step, met_step}
use Rattle.ere_auto.proofs.moves.go_on.Goals as goal

pub loop-used-preserved : goal.loop-used-preserved
loop-used-preserved c =
    let seeds = c.args.seeds.now in
    let K = c.args.reached.now in
    let used = c.loop-used.used in
    let nodes = c.args.table.now.nodes.items in
    let new = c.loop-used.moved.held.items in
    let L = c.take.new.self.held.items in
    let origin = origin_in seeds (origin_in K used) in
    let i = c.loop-used.invariant in
    let inside : node_in K used < c.args.table.now.nodes.len = c.requires.within used (omega arith) in
    let is = ap node_of (node_read nodes (node_in K used) c.index.result.now c.index.ensures (omega (arith, inside))) in
    record {
      moved =
          moved_step (node_at nodes) seeds K new L c.args.next used origin i.moved (omega arith) refl
          (subst (λ x. Took x c.args.next new L origin) is c.take.ensures.took);
      met =
          subst (MetFirst seeds K (used + 1)) (sym c.met_at-met.ensures)
          (met_step seeds K used origin (node_in K used) c.loop-used.met i.met refl refl c.if-differs.ensures);
      nodes = omega (arith, c.take.ensures.nodes, i.nodes);
    }
