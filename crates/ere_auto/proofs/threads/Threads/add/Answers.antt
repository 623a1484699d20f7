use Rattle.std.proofs.Common.{◌≡◌, ◌<◌, ℕ, false, length, sym, ap, ◌∙◌, inl, subst, arith, refl, slice_index_or}
use Rattle.std.proofs.lemmas.Bool.{not-false}
use Rattle.ere_auto.specs.Closure.{node_in, has_node}
use Rattle.ere_auto.specs.declared.thread.Thread.{Thread}
use Rattle.ere_auto.proofs.ThreadsLemmas.{listed_more, within_more, has_node_is}
use Rattle.ere_auto.proofs.threads.Threads.add.Goals as goal

pub invariant_of-self : goal.invariant_of-self
invariant_of-self c =
    let old = c.args.self.now in
    let t : Thread = record { node = c.args.node; origin = c.args.origin } in
    let longer = c.if-insert.ensures.counted in
    record {
      room = omega (arith, c.insert.ensures.len, c.push_reserved.ensures.capacity, old.room);
      counted = omega (arith, longer, c.push_reserved.ensures.len, old.counted);
      fits = omega (arith, longer, c.push_reserved.ensures.len, old.counted, c.insert.ensures.within, c.insert.ensures.len);
      listed = λ q.
          ap (λ m. slice_index_or m q false) c.insert.ensures.after
          ∙ listed_more old.held.items t old.marks c.requires old.listed q
          ∙ sym (ap (λ k. has_node k q) c.push_reserved.ensures.items);
      within =
          let e : length old.marks ≡ length c.insert.new.self = sym c.insert.ensures.len in
          subst (λ n. (x : ℕ) → x < length c.push_reserved.new.self.items → node_in c.push_reserved.new.self.items x < n) e
          (subst (λ k. (x : ℕ) → x < length k → node_in k x < length old.marks) (sym c.push_reserved.ensures.items)
          (within_more old.held.items t (length old.marks) c.requires old.within));
    }

pub returns-else-insert-clause-adds : goal.returns-else-insert-clause-adds
returns-else-insert-clause-adds c =
    let old = c.args.self.now in
    inl (
      refl,
      has_node_is old.held.items c.args.node
          (sym (old.listed c.args.node) ∙ not-false _ (sym c.if-insert.ensures.new)),
    )
