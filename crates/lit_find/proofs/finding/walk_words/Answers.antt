use Rattle.lit_find.proofs.Names.{Ok, Err, map, refl, ap, subst, ◌∙◌, list_any, Told, joined, IsRefused, IsCovered, same_text}
use Rattle.lit_find.proofs.AnswerLemmas.{nothing_yet, walks_where_told}
use Rattle.lit_find.proofs.finding.walk_words.Goals as goal

pub returns-in-Ok-clause-walk : goal.returns-in-Ok-clause-walk
returns-in-Ok-clause-walk g c =
    walks_where_told (g.T.Tree.nodes c.args.tree.now) (g.T.Tree.root c.args.tree.now) c.base.result.now c.args.paths.now
    (Ok c.add_words.new.walk.found) c.base.ensures.root c.base.ensures.nested
    (λ nodes told nested.
    let begun = nothing_yet nodes c.new-seen.result
    (record { found = c.new.result; walked = c.new-2.result; taken = 0; pending = c.new-3.result }) c.new-seen.ensures
    (λ text. ap (list_any (λ key. same_text text key.items)) c.new-2.ensures.empty) refl c.new-3.ensures c.new.ensures in (
      c.add_words.new.seen,
      c.add_words.new.walk,
      subst (λ base. IsCovered nodes (map (joined base) c.args.paths.now) c.add_words.new.seen c.add_words.new.walk)
          (c.as_slice.ensures ∙ c.in_ok-base.ensures.path) (c.in-Ok.ensures.gives nodes told nested begun),
      refl,
    ))

pub returns-clause-walk : goal.returns-clause-walk
returns-clause-walk g c =
    walks_where_told (g.T.Tree.nodes c.args.tree.now) (g.T.Tree.root c.args.tree.now) c.base.result.now c.args.paths.now
    (Err c.in-Err.fault) c.base.ensures.root c.base.ensures.nested
    (λ nodes told nested.
    let begun = nothing_yet nodes c.new-seen.result
    (record { found = c.new.result; walked = c.new-2.result; taken = 0; pending = c.new-3.result }) c.new-seen.ensures
    (λ text. ap (list_any (λ key. same_text text key.items)) c.new-2.ensures.empty) refl c.new-3.ensures c.new.ensures in
    subst (λ base. Told (IsRefused nodes (map (joined base) c.args.paths.now)) c.in-Err.fault)
    (c.as_slice.ensures ∙ c.in_ok-base.ensures.path) (c.in-Err.ensures.gives nodes told nested begun))
