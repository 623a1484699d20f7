use Rattle.std.proofs.Common.{◌∙◌, subst, take, take_all}
use Rattle.std.proofs.lemmas.List.Elements.{All-more}
use Rattle.prefix_tree.specs.Heads.{AreHeads, HasHead}
use Rattle.prefix_tree.proofs.HeadsLemmas.{heads_stay}
use Rattle.prefix_tree.proofs.heads.heads_of.Goals as goal

pub loop-prefix-preserved : goal.loop-prefix-preserved
loop-prefix-preserved c =
    let prefixes = c.args.prefixes.now in
    let index = c.loop-prefix.prefix-index in
    let old = c.loop-prefix.heads in
    let new = c.set_head.new.heads in
    record {
      long = c.set_head.array_long;
      are = All-more (HasHead new) prefixes index c.prefix-item.result c.loop-prefix-test.true
          (heads_stay old new (take index prefixes) c.set_head.ensures.stay c.loop-prefix.invariant.are)
          (subst (HasHead new) (c.as_slice.ensures ∙ c.prefix-item.is) c.set_head.ensures.head);
    }

pub returns : goal.returns
returns c =
    subst (AreHeads c.loop-prefix.heads) (take_all c.loop-prefix.prefix-index c.args.prefixes.now c.loop-prefix-test.false)
    c.loop-prefix.invariant.are
