use Rattle.std.proofs.Common.{◌≡◌, ◌+◌, List, Vec, Global, Some, [], ◌∷◌, ◌++◌, length, refl, sym, ap, ◌∙◌, subst, take, arith, get_or}
use Rattle.std.specs.List.{slice_get}
use Rattle.std.proofs.lemmas.List.{get_or_push, length_push}
use Rattle.std.proofs.lemmas.Option.{slice_get_read}
use Rattle.ere_reach.proofs.RowsLemmas.{All, Done, added}
use Rattle.ere_reach.specs.Rows.{AreSame, HasAt}
use Rattle.ere_reach.specs.declared.row.Row.{Row}
use Rattle.ere_reach.proofs.rows.Rows.add.Goals as goal
use Rattle.ere_reach.proofs.rows.Rows.add.Goals.{In_ok-note}

items : (c : In_ok-note) → c.note.new.self.rows.items ≡ c.args.self.now.rows.items ++ c.new.result ∷ []
items c = ap (λ (v : Vec Row Global). v.items) c.note.ensures ∙ c.in_ok-push.ensures.items

pub returns-clause-row : goal.returns-clause-row
returns-clause-row c =
    let old = c.args.self.now.rows.items in
    let row = c.new.result in
    let i = c.len-index.result in
    let long : length (old ++ row ∷ []) ≡ length old + 1 = length_push old row in
    let last : length old ≡ i = omega (arith, c.len-index.ensures, c.args.self.now.rows.ok) in
    let at : row ≡ get_or (old ++ row ∷ []) i row = sym (get_or_push old row row i last) in (
      row,
      subst (λ (xs : List Row). slice_get xs i ≡ Some row) (sym (items c))
          (slice_get_read (old ++ row ∷ []) (length (old ++ row ∷ [])) i row refl (omega (arith, last)) at),
      c.new.ensures.held ∙ c.in_ok-list.ensures.items,
    )

pub returns-clause-same : goal.returns-clause-same
returns-clause-same c =
    let old = c.args.self.now.rows.items in
    subst (λ (xs : List Row). AreSame (HasAt All xs) (HasAt All old)) (sym (items c))
    (added All old c.new.result c.new.ensures.places)

pub returns-clause-done : goal.returns-clause-done
returns-clause-done c =
    let old = c.args.self.now.rows.items in
    let row = c.new.result in
    subst (λ (xs : List Row). AreSame (HasAt Done xs) (HasAt Done old)) (sym (items c))
    (added Done old row (ap (λ n. take n row.places.items) c.new.ensures.done))
