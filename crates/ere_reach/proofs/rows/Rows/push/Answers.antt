use Rattle.std.proofs.Common.{◌≡◌, ◌⊎◌, List, Vec, Global, sym, ap, ◌∙◌, subst, take}
use Rattle.std.specs.List.{Contains}
use Rattle.ere_reach.proofs.RowsLemmas.{All, Done, added, at_push}
use Rattle.ere_reach.specs.Rows.{AreSame, HasAt}
use Rattle.ere_reach.specs.declared.row.Row.{Row}
use Rattle.ere_reach.proofs.rows.Rows.push.Goals as goal

pub returns-clause-put : goal.returns-clause-put
returns-clause-put c =
    let old = c.args.self.now.rows.items in
    let row = c.restart.new.self in
    let items = ap (λ (v : Vec Row Global). v.items) c.note.ensures ∙ c.in_ok-push.ensures.items in
    rw (ap (λ v. v.items) c.restart.ensures.held, ap (λ v. v.items) c.restart.ensures.places) at
    (subst (λ (xs : List Row). AreSame (HasAt All xs)
    (λ h p. HasAt All old h p ⊎ ((h ≡ row.held.items) × Contains row.places.items p))) (sym items) (at_push All old row))

pub returns-clause-done : goal.returns-clause-done
returns-clause-done c =
    let old = c.args.self.now.rows.items in
    let row = c.restart.new.self in
    let items = ap (λ (v : Vec Row Global). v.items) c.note.ensures ∙ c.in_ok-push.ensures.items in
    subst (λ (xs : List Row). AreSame (HasAt Done xs) (HasAt Done old)) (sym items)
    (added Done old row (ap (λ n. take n row.places.items) c.restart.ensures.done))
