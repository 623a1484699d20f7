use Rattle.std.proofs.Common.{◌≡◌, [], ◌∷◌, length, map, refl, ap, ◌∙◌}
use Rattle.std.proofs.lemmas.Result.{IfOk-weaker}
use Rattle.std.specs.List.{Contains}
use Rattle.ere_tree.specs.Derivation.{leaf}
use Rattle.ere_tree.specs.Tree.{back}
use Rattle.ere_refs.proofs.FoundLemmas.{none_long, one_long}
use Rattle.ere_refs.proofs.ListedLemmas.{over_best, over_none}
use Rattle.ere_refs.proofs.OverLemmas.{back_best, back_none, back_same}
use Rattle.ere_refs.specs.Site.{ListsAt}
use Rattle.ere_refs.proofs.lists.over_ref.Goals as goal

pub returns-then-not-refers : goal.returns-then-not-refers
returns-then-not-refers c =
    let site = c.args.site in
    let part = site.part in
    let number = c.args.number in (
      λ d is. (
        [],
        over_none site.text.now (back number c.args.fold) part.from part.to d (Contains site.live.now)
            (back_none site.text.now number c.args.fold part.start part.from part.to site.caps.now c.refers.result d
            c.refers.ensures c.if-not-refers.true is),
        ap (map (λ held. held.items)) c.new.ensures.items,
      ),
      none_long (length site.caps.now) c.new.result.items c.new.ensures.items,
    )

pub returns : goal.returns
returns c =
    let site = c.args.site in
    let s = site.text.now in
    let part = site.part in
    let number = c.args.number in
    let fold = c.args.fold in
    let same = c.in_ok-from_slice.ensures.items in
    IfOk-weaker c.one_list.result (λ found. found.items ≡ c.in_ok-from_slice.field-0 ∷ []) (ListsAt site (back number fold))
    (λ found one. (
      λ d is.
          let b = (c.refers.ensures d is).0 c.if-not-refers.false in (
            (leaf, d) ∷ [],
            over_best s (back number fold) part.from part.to d (Contains site.live.now) leaf d
                (b.0, b.1, (c.requires.site.0, c.requires.site.1), b.2, refl) (back_best s number fold part.from part.to d)
                (λ v e shows n has. back_same s number fold v part.from part.to d e shows n),
            ap (map (λ held. held.items)) one ∙ ap (λ xs. xs ∷ []) (same ∙ is),
          ),
      one_long (length site.caps.now) found.items c.in_ok-from_slice.field-0 one (ap length same),
    )) c.one_list.ensures
