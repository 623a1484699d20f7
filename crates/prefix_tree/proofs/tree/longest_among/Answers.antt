use Rattle.std.proofs.Common.{◌≡◌, ◌+◌, [], get_or, length, drop, sym, ◌∙◌, ap}
use Rattle.std.proofs.lemmas.List.{get_or_default}
use Rattle.tt_base.specs.Occurrence.{begins_with}
use Rattle.prefix_tree.proofs.PrefixLemmas.{from_end, from_next}
use Rattle.prefix_tree.specs.Prefix.{meant_from, taken}
use Rattle.prefix_tree.proofs.tree.longest_among.Goals as goal

pub loop-index-preserved : goal.loop-index-preserved
loop-index-preserved c =
    let prefixes = c.args.prefixes.now in
    let text = c.args.text.now in
    let l = c.loop-index in
    let inside = c.loop-index-test.true in
    let here : c.as_slice-prefix.result.now ≡ get_or prefixes l.index [] = c.as_slice-prefix.ensures ∙ c.index-prefixes-index.is
    ∙ get_or_default prefixes l.index c.index-prefixes-index.result [] inside in
    ap (meant_from text (l.index + 1) (drop (l.index + 1) prefixes))
    (c.taken-best.ensures
    ∙ ap (λ stands. taken stands l.index (length c.as_slice-prefix.result.now) l.best) c.starts_with.ensures.value
    ∙ ap (λ prefix. taken (begins_with text prefix) l.index (length prefix) l.best) here)
    ∙ sym (from_next prefixes text l.index inside l.best) ∙ l.invariant

pub returns : goal.returns
returns c =
    from_end c.args.prefixes.now c.args.text.now c.loop-index.index c.loop-index.best c.loop-index-test.false
    ∙ c.loop-index.invariant
