-- Places are added to the row by which groups hold what is given.
-- The loop says that the other rows are as they were, and which places this one has by now.
-- The hard part is the row in the list: `set` at its index, which is found again at the end.
use Rattle.std.proofs.Common.{◌≡◌, ◌⊎◌, ◌<◌, ◌+◌, List, Some, length, get_or, take, set, refl, sym, ap, ◌∙◌, subst, arith, length-set}
use Rattle.std.specs.List.{Contains, slice_get}
use Rattle.std.proofs.lemmas.List.{get_or-set_same, take_all}
use Rattle.std.proofs.lemmas.Option.{get_or_from_slice_get, slice_get_read, slice_get_within}
use Rattle.ere_reach.proofs.RowsLemmas.{All, Done, changed, done_same, none_put, or_more, put_more, then_same, unchanged}
use Rattle.ere_reach.specs.Rows.{AreSame, HasAt, HasState, IsDone}
use Rattle.ere_reach.specs.declared.held.Held.{Held}
use Rattle.ere_reach.specs.declared.row.Row.{Row}
use Rattle.ere_reach.proofs.rows.Rows.put.Goals as goal

pub loop-place-init : goal.loop-place-init
loop-place-init c = record {
  row = c.in_ok-index.ensures.row;
  put = none_put c.args.held.now (HasState c.args.self.now) (HasState c.row_for.new.self) c.in_ok-index.ensures.same;
  done = c.in_ok-index.ensures.done;
}

pub index_mut-requires : goal.index_mut-requires
index_mut-requires c =
    let row = c.loop-place.invariant.row in
    omega (arith, slice_get_within c.loop-place.self.rows.items c.in_ok-index.index row.0 row.1, c.loop-place.self.rows.ok)

pub loop-place-preserved : goal.loop-place-preserved
loop-place-preserved c =
    let rows = c.loop-place.self.rows.items in
    let i = c.in_ok-index.index in
    let held = c.args.held.now in
    let places = c.args.places.now in
    let k = c.loop-place.place-index in
    let before = c.loop-place.invariant in
    let old = c.index_mut.result.now in
    let new = c.put.new.self in
    let low = slice_get_within rows i before.row.0 before.row.1 in
    let is : old ≡ before.row.0 = c.index_mut.ensures.value ∙ get_or_from_slice_get rows i before.row.0 old before.row.1 in
    let at : slice_get rows i ≡ Some old = before.row.1 ∙ ap Some (sym is) in
    let own : old.held.items ≡ held = ap (λ (r : Row). r.held.items) is ∙ before.row.2 in
    let stays : new.held.items ≡ old.held.items = ap (λ v. v.items) c.in_ok-put.ensures.held in
    let long : i < length (set rows i new) = omega (arith, low, length-set rows i new) in
    let step = changed All rows i old new (λ p. p ≡ get_or places k 0) at stays c.in_ok-put.ensures.there in
    record {
      row = (
        new,
        slice_get_read (set rows i new) (length (set rows i new)) i new refl long
            (sym (get_or-set_same rows i new new low)),
        stays ∙ own,
      );
      put = or_more (HasState c.args.self.now) (λ h p. (h ≡ held) × Contains (take k places) p)
          (λ h p. (h ≡ held) × Contains (take (k + 1) places) p) (λ h p. (h ≡ held) × (p ≡ get_or places k 0))
          (HasState c.loop-place.self) (HasAt All (set rows i new)) (put_more held places k c.loop-place-test.true)
          before.put
          (subst (λ (g : List Held). AreSame (HasAt All (set rows i new))
          (λ h p. HasAt All rows h p ⊎ ((h ≡ g) × (p ≡ get_or places k 0)))) own step);
      done = then_same (HasAt Done (set rows i new)) (IsDone c.loop-place.self) (IsDone c.args.self.now)
          (unchanged Done rows i old new at stays
          (done_same old.places.items new.places.items old.done new.done c.in_ok-put.ensures.done old.gone
          c.in_ok-put.ensures.behind)) before.done;
    }

pub returns-clause-put : goal.returns-clause-put
returns-clause-put c =
    subst (λ xs. AreSame (HasState c.loop-place.self)
    (λ h p. HasState c.args.self.now h p ⊎ ((h ≡ c.args.held.now) × Contains xs p)))
    (take_all c.loop-place.place-index c.args.places.now c.loop-place-test.false) c.loop-place.invariant.put
