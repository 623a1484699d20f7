use Rattle.std.proofs.Common.{◌≡◌, ◌↔◌, ◌⊎◌, ℕ, List, [], ◌∷◌, ◌++◌, sym, ap, ◌∙◌, subst, inl, inr}
use Rattle.std.specs.List.{Contains}
use Rattle.ere_reach.proofs.RowsLemmas.{pushed}
use Rattle.ere_reach.specs.declared.row.Row.{Row}
use Rattle.ere_reach.proofs.row.Row.put.Goals as goal
use Rattle.ere_reach.proofs.row.Row.put.Goals.{else-many-via-then-many+then-place-self+else-is_err, else-many-via-then-many+else-place-self, else-many-via-else-many}

pub returns-then-has-clause-there : goal.returns-then-has-clause-there
returns-then-has-clause-there c = λ q.
    let row = c.args.self.now in
    let there : Contains row.places.items c.args.place = c.has.ensures c.if-has.true in (
      λ h. inl h,
      λ h. elim h [ inl was ↦ was | inr is ↦ subst (Contains row.places.items) (sym is) there ],
    )

pub returns-clause-there : goal.returns-clause-there
returns-clause-there c =
    let old = c.args.self.now.places.items in
    let place = c.args.place in
    let items : c.else-many.self.places.items ≡ old ++ place ∷ [] = elim c.else-many.branch [
      | else-many-via-then-many+then-place-self+else-is_err w ↦
          ap (λ (r : Row). r.places.items) w.self-is ∙ c.in_ok-push.ensures.items
      | else-many-via-then-many+else-place-self w ↦
          ap (λ (r : Row). r.places.items) w.self-is ∙ c.in_ok-push.ensures.items
      | else-many-via-else-many w ↦ ap (λ (r : Row). r.places.items) w.self-is ∙ c.in_ok-push.ensures.items
    ] in
    subst (λ (xs : List ℕ). (q : ℕ) → Contains xs q ↔ (Contains old q ⊎ (q ≡ place))) (sym items) (pushed old place)
