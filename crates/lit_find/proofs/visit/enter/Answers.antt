use Rattle.lit_find.proofs.Names.{◌≡◌, ◌+◌, ◌||◌, length, ap, sym, ◌∙◌, IsThrough, has_text, same_text, was_walked, with_items}
use Rattle.std.proofs.lemmas.Result.{IfOk-weaker}
use Rattle.lit_find.proofs.visit.enter.Goals as goal

pub returns : goal.returns
returns c =
    let looked = c.args.looked.now in
    let walk = c.args.walk.now in
    let items = c.args.items.now in
    let new = c.sort_items.new.walk in
    let kept = c.sort_items.ensures.walked in
    let taken : new.taken ≡ walk.taken + length items = c.sort_items.ensures.taken in
    IfOk-weaker c.sort_items.result _ (λ done. IsThrough looked items c.args.known.now walk new) (λ done sorted. record {
      marked = λ text. ap (λ set. has_text set text) kept ∙ c.in_ok-mark.ensures text
          ∙ ap (λ one. same_text text one || was_walked walk text) (c.into_vec.ensures ∙ c.requires.path);
      taken = taken;
      sorted = sorted ∙ (λ i. with_items (c.own_or-root.ensures i) (c.as_slice.ensures i)
          (record { found = walk.found; walked = sym kept i; taken = sym taken i; pending = walk.pending }) items);
    }) c.sort_items.ensures.sorted
