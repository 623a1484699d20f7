use Rattle.std.proofs.Common.{ℕ, ◌<◌, ap, subst, arith}
use Rattle.ere_table.specs.Node.{node_of, node_at, furthest}
use Rattle.ere_auto.specs.Closure.{Skips, node_in, HasNode}
use Rattle.ere_auto.specs.Threads.{Grown}
use Rattle.ere_auto.proofs.ListLemmas.{thread_at}
use Rattle.ere_auto.proofs.ClosureLemmas.{closing_seed, closing_step}
use Rattle.ere_auto.proofs.closure.close.Goals as goal

pub loop-next-init : goal.loop-next-init
loop-next-init c =
    let i = c.loop-index.invariant in record {
      closing =
          closing_seed c.args.starts c.args.ends (node_at c.args.table.now.nodes.items) c.args.seeds.now
          c.loop-index.reached.held.items c.add.new.self.held.items c.loop-index.index c.loop-index.next i.closing i.all
          c.add.ensures.adds;
      nodes = omega (arith, c.add.ensures.nodes, i.nodes);
    }

pub follow-requires : goal.follow-requires
follow-requires c =
    let K = c.loop-next.reached.held.items in
    let nodes = c.args.table.now.nodes.items in
    let below = c.loop-next.reached.within c.loop-next.next (omega arith) in
    let inside : node_in K c.loop-next.next < c.args.table.now.nodes.len =
    omega (arith, below, c.loop-next.invariant.nodes, c.requires.marks) in
    let is = thread_at nodes K c.loop-next.next c.index.result.now c.index-in-loop-next.result.now c.index.ensures
    (omega arith) c.index-in-loop-next.ensures (omega (arith, inside)) in
    omega (
      arith,
      ap furthest is,
      c.args.table.now.closed (node_in K c.loop-next.next) inside,
      c.loop-next.invariant.nodes,
      c.requires.marks,
    )

pub loop-next-preserved : goal.loop-next-preserved
loop-next-preserved c =
    let K = c.loop-next.reached.held.items in
    let L = c.follow.new.self.held.items in
    let nodes = c.args.table.now.nodes.items in
    let below = c.loop-next.reached.within c.loop-next.next (omega arith) in
    let inside : node_in K c.loop-next.next < c.args.table.now.nodes.len =
    omega (arith, below, c.loop-next.invariant.nodes, c.requires.marks) in
    let is = ap node_of (thread_at nodes K c.loop-next.next c.index.result.now c.index-in-loop-next.result.now
    c.index.ensures (omega arith) c.index-in-loop-next.ensures (omega (arith, inside))) in
    record {
      closing =
          closing_step c.args.starts c.args.ends (node_at nodes) c.args.seeds.now K L c.loop-index.index c.loop-next.next
          c.loop-next.invariant.closing (omega arith)
          (subst (λ x. Grown K L c.loop-index.index (Skips c.args.starts c.args.ends x)) is c.follow.ensures.grown)
          (subst (λ x. (q : ℕ) → Skips c.args.starts c.args.ends x q → HasNode L q) is c.follow.ensures.all);
      nodes = omega (arith, c.follow.ensures.nodes, c.loop-next.invariant.nodes);
    }
