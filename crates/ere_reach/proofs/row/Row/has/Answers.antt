use Rattle.std.proofs.Common.{◌≡◌, ℕ, List, ◌==◌, true, take, drop, take-append-drop, sym, ap, ◌∙◌, subst}
use Rattle.std.specs.List.{Contains, list_any}
use Rattle.std.proofs.lemmas.Bool.{eqb-true}
use Rattle.std.proofs.lemmas.List.Elements.{Contains-append_left}
use Rattle.std.proofs.lemmas.Map.Views.{Contains-from_any}
use Rattle.ere_reach.proofs.row.Row.has.Goals as goal

pub returns-then-has : goal.returns-then-has
returns-then-has c = λ is.
    Contains-from_any eqb-true c.args.place c.args.self.now.places.items
    (c.args.self.now.told c.args.place (sym c.has.ensures ∙ is))

pub returns-else-has : goal.returns-else-has
returns-else-has c = λ is.
    let place = c.args.place in
    let all = c.args.self.now.places.items in
    let few = c.min-few.result in
    let front : c.split_at.result.0.now ≡ take few all =
    c.split_at.ensures.front ∙ ap (take few) c.as_slice.ensures.value in
    let among : list_any (λ y. y == place) (take few all) ≡ true =
    subst (λ (xs : List ℕ). list_any (λ y. y == place) xs ≡ true) front (sym c.contains.ensures.value ∙ is) in
    subst (λ (xs : List ℕ). Contains xs place) (take-append-drop few all)
    (Contains-append_left (take few all) (drop few all) place
    (Contains-from_any {eq = λ x y. y == x} (λ x y e. sym (eqb-true y x e)) place (take few all) among))
