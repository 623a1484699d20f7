-- Writing an expression into the table: it stands at the nodes that were written, and what stood there stands on.
-- Each loop writes its parts from the last to the first, with one lemma of PutLemmas for a part more.
-- The hard ones are those of `put_loop` and `put_copies`.
use Rattle.std.proofs.Common.{rules, ◌≡◌, ◌+◌, ◌-◌, ◌≤◌, Some, None, sym, ap, ◌∙◌, subst, arith}
use Rattle.std.specs.Result.{OnOk}
use denote.Param.Weighed.{most}
use Rattle.ere_tree.proofs.ViewLemmas.{view_Repeat}
use Rattle.ere_tree.specs.Tree.{repeat}
use Rattle.ere_tree.proofs.ere.Ere.TheLaws.{the_size}
use Rattle.ere_tree.specs.View.{view}
use Rattle.ere_table.specs.Node.{node_at}
use Rattle.ere_table.specs.Stands.{Stands}
use Rattle.ere_table.proofs.StandsLemmas.{grows_on}
use Rattle.ere_table.proofs.PutLemmas.{all_more, one_more, no_deeper, none_has_refs, loop_first, loop_grows, loop_more, copy_more, choice_more, copies_from}
use Rattle.ere_table.proofs.table.NodeTable.+put.Goals as goal
use Rattle.ere_table.proofs.table.NodeTable.+put.Goals.{put_copies-then-most-least+in_ok-push, put_copies-else-most-least}

pub put_all-put-requires : goal.put_all-put-requires
put_all-put-requires t c =
    let less : the_size c.index-parts-left.result ≤ most the_size c.args.parts.now = no_deeper _ _ (c.loop-left.left - 1) c.index-parts-left.is (omega arith) in
    (search rules, none_has_refs _ _ (c.loop-left.left - 1) c.requires (omega arith) c.index-parts-left.is)

pub put_all-loop-left-preserved : goal.put_all-loop-left-preserved
put_all-loop-left-preserved t c = record {
  within = omega arith;
  stands =
      all_more _ _ _ _ _ c.loop-left.left _ _ _ c.in_ok-put.ensures.grows (omega arith) (omega arith)
      c.index-parts-left.is c.in_ok-put.ensures.stands c.loop-left.invariant.stands;
  grows = grows_on _ _ _ c.loop-left.invariant.grows c.in_ok-put.ensures.grows;
}

pub put_one-put-requires : goal.put_one-put-requires
put_one-put-requires t c =
    let less : the_size c.index-choices-left.result ≤ most the_size c.args.choices.now = no_deeper _ _ (c.loop-left.left - 1) c.index-choices-left.is (omega arith) in
    (search rules, none_has_refs _ _ (c.loop-left.left - 1) c.requires (omega arith) c.index-choices-left.is)

pub put_one-loop-left-preserved : goal.put_one-loop-left-preserved
put_one-loop-left-preserved t c = record {
  within = omega arith;
  stands =
      one_more _ _ _ _ _ _ c.loop-left.left _ _ _ _ c.in_ok-put.ensures.grows c.in_ok-push-2.ensures.grows
      (omega arith) (omega arith) c.index-choices-left.is c.in_ok-put.ensures.stands c.in_ok-push-2.ensures.node
      c.loop-left.invariant.stands;
  grows =
      grows_on _ _ _ c.loop-left.invariant.grows
      (grows_on _ _ _ c.in_ok-put.ensures.grows c.in_ok-push-2.ensures.grows);
}

pub put_loop-loop-init : goal.put_loop-loop-init
put_loop-loop-init t c = record {
  stands =
      loop_first c.args.self.now.nodes.items c.push.new.self.nodes.items c.put.new.self.nodes.items
      (view c.args.inner.now) _ c.push.new.self.entry _ c.in_ok-push.ensures.grows c.in_ok-put.ensures.grows
      c.in_ok-push.ensures.node (omega (arith, c.in_ok-push.ensures.place)) (omega (arith, c.in_ok-push.ensures.place, c.in_ok-push.ensures.longer))
      c.in_ok-put.ensures.stands;
  grows =
      loop_grows _ c.push.new.self.nodes.items _ _ _ c.in_ok-push.ensures.grows c.in_ok-put.ensures.grows
      (omega (arith, c.in_ok-push.ensures.place));
}

pub put_loop-loop-preserved : goal.put_loop-loop-preserved
put_loop-loop-preserved t c = record {
  stands =
      loop_more _ _ (view c.args.inner.now) c.loop.counter (c.loop.counter + 1) c.loop.self.entry
      c.put-in-loop.new.self.entry c.args.self.now.entry c.in_ok-put-2.ensures.grows (omega arith) c.in_ok-put-2.ensures.stands
      c.loop.invariant.stands;
  grows = grows_on _ _ _ c.loop.invariant.grows c.in_ok-put-2.ensures.grows;
}

pub put_copies-loop-preserved : goal.put_copies-loop-preserved
put_copies-loop-preserved t c = record {
  stands =
      choice_more _ _ _ (view c.args.inner.now) (c.args.least - c.args.most) (c.loop.counter - c.args.least)
      (c.loop.counter + 1 - c.args.least) c.loop.self.entry c.put.new.self.entry
      c.push-in-loop.new.self.entry c.args.self.now.entry c.in_ok-put.ensures.grows c.in_ok-push-2.ensures.grows (omega arith) (omega (arith, c.loop.auto.counter))
      c.in_ok-put.ensures.stands c.in_ok-push-2.ensures.node c.loop.invariant.stands;
  few = omega arith;
  grows =
      grows_on _ _ _ c.loop.invariant.grows
      (grows_on _ _ _ c.in_ok-put.ensures.grows c.in_ok-push-2.ensures.grows);
}

pub put_copies-loop-2-init : goal.put_copies-loop-2-init
put_copies-loop-2-init t c = record {
  stands =
      copies_from _ _ (c.args.least - c.args.most) (c.loop.counter - c.args.least) (c.args.least - c.args.most + 0) (c.args.most - c.args.least + 0) _ _ (omega arith) (omega (arith, c.loop.auto.counter)) c.loop.invariant.stands;
  grows = c.loop.invariant.grows;
}

pub put_copies-loop-2-preserved : goal.put_copies-loop-2-preserved
put_copies-loop-2-preserved t c = record {
  stands =
      copy_more _ _ (view c.args.inner.now) (c.args.least - c.args.most + c.loop-2.counter)
      (c.args.least - c.args.most + (c.loop-2.counter + 1)) (c.args.most - c.args.least + c.loop-2.counter)
      (c.args.most - c.args.least + (c.loop-2.counter + 1)) c.loop-2.self.entry c.put-in-loop-2.new.self.entry
      c.args.self.now.entry
      c.in_ok-put-2.ensures.grows (omega arith) (omega arith) c.in_ok-put-2.ensures.stands c.loop-2.invariant.stands;
  grows = grows_on _ _ _ c.loop-2.invariant.grows c.in_ok-put-2.ensures.grows;
}

pub put-returns-in-None-clause-stands : goal.put-returns-in-None-clause-stands
put-returns-in-None-clause-stands t c =
    let least = c.in-Repeat.least in
    let tree : repeat (view c.deref.result.now) least None ≡ view c.args.ere.now =
    ap (λ x. repeat (view x) least None) c.deref.ensures
    ∙ sym (ap view c.in-Repeat.is ∙ view_Repeat c.in-Repeat.inner least c.in-Repeat.most
    ∙ ap (λ m. repeat (view c.in-Repeat.inner.value) least m) c.in-None.is) in
    subst (λ x. OnOk c.put_loop.result
    (Stands (node_at c.put_loop.new.self.nodes.items) x c.put_loop.new.self.entry c.args.self.now.entry)) tree
    c.put_loop.ensures.stands

pub put-returns-in-Some-clause-stands : goal.put-returns-in-Some-clause-stands
put-returns-in-Some-clause-stands t c =
    let least = c.in-Repeat.least in
    let tree : repeat (view c.deref-in-Some.result.now) least (Some c.in-Some.most) ≡ view c.args.ere.now =
    ap (λ x. repeat (view x) least (Some c.in-Some.most)) c.deref-in-Some.ensures
    ∙ sym (ap view c.in-Repeat.is ∙ view_Repeat c.in-Repeat.inner least c.in-Repeat.most
    ∙ ap (λ m. repeat (view c.in-Repeat.inner.value) least m) c.in-Some.is) in
    subst (λ x. OnOk c.put_copies.result
    (Stands (node_at c.put_copies.new.self.nodes.items) x c.put_copies.new.self.entry c.args.self.now.entry)) tree
    c.put_copies.ensures.stands
