use Rattle.std.proofs.Common.{◌≡◌, [], ◌∷◌, length, map, sym, ap, ◌∙◌, true≢false}
use Rattle.std.proofs.lemmas.Result.{IfOk-weaker}
use Rattle.std.specs.List.{Contains}
use Rattle.ere_tree.specs.View.{view}
use Rattle.ere_refs.proofs.FoundLemmas.{one_long, none_long}
use Rattle.ere_refs.proofs.ListedLemmas.{over_best, over_none}
use Rattle.ere_refs.specs.Site.{ListsAt}
use Rattle.ere_refs.proofs.lists.over_free.Goals as goal

pub returns-then-not-branch : goal.returns-then-not-branch
returns-then-not-branch c =
    let site = c.args.site in (
      λ d is. (
        [],
        over_none site.text.now (view c.args.ere.now) site.part.from site.part.to d (Contains site.live.now)
            (λ v e h. true≢false (sym (c.in_ok-spans.ensures.1 (v, d, e, h)) ∙ c.if-not-branch.true)),
        ap (map (λ held. held.items)) c.new.ensures.items,
      ),
      none_long (length site.caps.now) c.new.result.items c.new.ensures.items,
    )

pub returns : goal.returns
returns c =
    let site = c.args.site in
    let s = site.text.now in
    let t = view c.args.ere.now in
    let part = site.part in
    IfOk-weaker c.one_list.result (λ found. found.items ≡ c.in_ok-held.held ∷ []) (ListsAt site t)
    (λ found one. (
      λ d is.
          let b = c.in_ok-held.ensures.best d is in (
            (b.0, b.1) ∷ [],
            over_best s t part.from part.to d (Contains site.live.now) b.0 b.1 b.2 (λ v e h. b.3 v d e h)
                (λ v e shows. c.requires.tells s v b.0 part.from part.to d e b.1 shows b.2),
            ap (map (λ held. held.items)) one ∙ ap (λ xs. xs ∷ []) b.4,
          ),
      one_long (length site.caps.now) found.items c.in_ok-held.held one c.in_ok-held.ensures.long,
    )) c.one_list.ensures
