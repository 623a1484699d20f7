-- The walk: down a tree, through parts, along alternatives, through members.
-- Parts and members go by what is owed (`PartsTo`, `MembersTo`); each step is a lemma of WalkLemmas, and each return
-- turns what is done into a best way of the whole.
use Rattle.std.proofs.Common.{◌≡◌, ℕ, ◌+◌, ◌-◌, ◌<◌, ◌≤◌, Option, List, length, map, false, sym, ap, ◌∙◌, subst, arith, true≢false}
use Rattle.std.specs.FinMap.{insert}
use Rattle.std.proofs.lemmas.List.{drop_all}
use Rattle.std.proofs.lemmas.Result.{IfOk-weaker}
use Rattle.ere_tree.proofs.FreeLemmas.{no_right}
use Rattle.ere_tree.proofs.ViewLemmas.{view_Cat, view_Alt, view_Repeat, view_Group}
use Rattle.ere_places.proofs.TreesLemmas.{trees_in_map}
use Rattle.ere_tree.specs.Captures.{Captures, caps_of}
use Rattle.ere_tree.specs.Derivation.{Spans}
use Rattle.ere_tree.specs.Shape.{has_refs, any_has_refs, greatest_group, greatest_group_of}
use Rattle.ere_tree.specs.Tree.{Tree, cat, alt, repeat, group, trees_of}
use Rattle.ere_tree.specs.View.{view}
use Rattle.ere_tree.specs.declared.ere.Ere.{Ere}
use Rattle.ere_tree.specs.declared.hit.Cap.{Cap}
use Rattle.ere_places.specs.Places.{SpanAll}
use Rattle.ere_places.proofs.SpanLemmas.{spans_part, spans_cat, spans_alt, spans_group}
use Rattle.ere_places.proofs.ReachLemmas.{view_no_refs}
use Rattle.ere_captures.specs.Walk.{SetsBest, AreRests, RestOf, less_one}
use Rattle.ere_captures.proofs.BestLemmas.{repeat_begins}
use Rattle.ere_captures.proofs.DepthLemmas.{depth, depth_of, depth_at}
use Rattle.ere_captures.proofs.EndsLemmas.{rests_behind}
use Rattle.ere_captures.proofs.WalkLemmas.{PartsTo, MembersTo, sets_none, sets_group, sets_one, parts_begin, parts_more, parts_end, members_begin, members_more, members_end, one_is_part, room_at, tree_here, none_more, one_behind, along}
use Rattle.ere_captures.proofs.walk.+walk.Goals as goal
use Rattle.ere_captures.proofs.walk.+walk.Goals.{walk_members-then-least-gt0, walk_members-else-least-gt0+then-from-part}

-- THE WHOLE

pub walk-returns-then-groups-eq0 : goal.walk-returns-then-groups-eq0
walk-returns-then-groups-eq0 t c =
    sets_none c.args.text.now (view c.args.ere.now) c.args.part.start c.args.part.from c.args.part.to
    (length c.args.caps.now) c.args.caps.now c.requires.no_refs c.requires.span
    (sym c.groups.ensures ∙ c.if-groups-eq0.true)

pub walk-walk_parts-requires : goal.walk-walk_parts-requires
walk-walk_parts-requires t c =
    let s = c.args.text.now in
    let ts = map view c.as_slice.result.now in
    let tree : cat (trees_of ts) ≡ view c.args.ere.now =
    ap (λ (xs : List Ere). cat (trees_of (map view xs))) c.as_slice.ensures
    ∙ sym (ap view c.in-Cat.is ∙ view_Cat c.in-Cat.parts ∙ ap cat (trees_in_map c.in-Cat.parts)) in
    let refs : any_has_refs (trees_of ts) ≡ false = ap has_refs tree ∙ c.requires.no_refs in
    let big : greatest_group_of (trees_of ts) ≡ greatest_group (view c.args.ere.now) = ap greatest_group tree in (
      omega (arith, c.decreases, ap depth tree),
      (
        refs,
        (
          (spans_cat s ts c.args.part.from c.args.part.to refs).0
              (subst (λ (t : Tree). Spans s t c.args.part.from c.args.part.to) (sym tree) c.requires.span),
          (omega (arith, big, c.requires.room), c.requires.fits),
        ),
      ),
    )

pub walk-walk_one-requires : goal.walk-walk_one-requires
walk-walk_one-requires t c =
    let s = c.args.text.now in
    let ts = map view c.as_slice-in-Alt.result.now in
    let tree : alt (trees_of ts) ≡ view c.args.ere.now =
    ap (λ (xs : List Ere). alt (trees_of (map view xs))) c.as_slice-in-Alt.ensures
    ∙ sym (ap view c.in-Alt.is ∙ view_Alt c.in-Alt.choices ∙ ap alt (trees_in_map c.in-Alt.choices)) in
    let refs : any_has_refs (trees_of ts) ≡ false = ap has_refs tree ∙ c.requires.no_refs in
    let big : greatest_group_of (trees_of ts) ≡ greatest_group (view c.args.ere.now) = ap greatest_group tree in (
      omega (arith, c.decreases, ap depth tree),
      (
        refs,
        (
          (spans_alt s ts c.args.part.from c.args.part.to).0
              (subst (λ (t : Tree). Spans s t c.args.part.from c.args.part.to) (sym tree) c.requires.span),
          (omega (arith, big, c.requires.room), c.requires.fits),
        ),
      ),
    )

pub walk-walk_members-requires : goal.walk-walk_members-requires
walk-walk_members-requires t c =
    let s = c.args.text.now in
    let inner = view c.deref.result.now in
    let tree : repeat inner c.in-Repeat.least c.in-Repeat.most ≡ view c.args.ere.now =
    ap (λ e. repeat (view e) c.in-Repeat.least c.in-Repeat.most) c.deref.ensures
    ∙ sym (ap view c.in-Repeat.is ∙ view_Repeat c.in-Repeat.inner c.in-Repeat.least c.in-Repeat.most) in
    let refs : has_refs inner ≡ false = ap has_refs tree ∙ c.requires.no_refs in
    let big : greatest_group inner ≡ greatest_group (view c.args.ere.now) = ap greatest_group tree in (
      omega (arith, c.decreases, ap depth tree),
      (
        refs,
        (
          subst (λ (t : Tree). Spans s t c.args.part.from c.args.part.to) (sym tree) c.requires.span,
          (omega (arith, big, c.requires.room), c.requires.fits),
        ),
      ),
    )

pub walk-walk-requires : goal.walk-walk-requires
walk-walk-requires t c =
    let s = c.args.text.now in
    let inner = view c.deref-in-Group.result.now in
    let n = c.in-Group.number in
    let tree : group n inner ≡ view c.args.ere.now =
    ap (λ e. group n (view e)) c.deref-in-Group.ensures
    ∙ sym (ap view c.in-Group.is ∙ view_Group n c.in-Group.inner) in
    let refs : has_refs inner ≡ false = ap has_refs tree ∙ c.requires.no_refs in
    let big : greatest_group (group n inner) ≡ greatest_group (view c.args.ere.now) = ap greatest_group tree in (
      omega (arith, c.decreases, ap depth tree),
      (
        refs,
        (
          (spans_group s n inner c.args.part.from c.args.part.to).0
              (subst (λ (t : Tree). Spans s t c.args.part.from c.args.part.to) (sym tree) c.requires.span),
          (omega (arith, big, c.requires.room), c.requires.fits),
        ),
      ),
    )

pub walk-set_group-requires-clause-from : goal.walk-set_group-requires-clause-from
walk-set_group-requires-clause-from t c =
    let part = spans_part c.args.text.now (view c.args.ere.now) c.args.part.from c.args.part.to c.requires.span in
    omega (arith, part.0, part.1, c.requires.fits)

pub walk-set_group-requires-clause-to : goal.walk-set_group-requires-clause-to
walk-set_group-requires-clause-to t c =
    let part = spans_part c.args.text.now (view c.args.ere.now) c.args.part.from c.args.part.to c.requires.span in
    omega (arith, part.1, c.requires.fits)

pub walk-returns-in-Cat : goal.walk-returns-in-Cat
walk-returns-in-Cat t c =
    let ts = map view c.as_slice.result.now in
    let Best = λ (t : Tree). SetsBest c.args.text.now t c.args.part.start c.args.part.from c.args.part.to
    (length c.args.caps.now) c.args.caps.now c.walk_parts.new.caps in
    let tree : cat (trees_of ts) ≡ view c.args.ere.now =
    ap (λ (xs : List Ere). cat (trees_of (map view xs))) c.as_slice.ensures
    ∙ sym (ap view c.in-Cat.is ∙ view_Cat c.in-Cat.parts ∙ ap cat (trees_in_map c.in-Cat.parts)) in
    IfOk-weaker c.walk_parts.result (λ _. Best (cat (trees_of ts))) (λ _. Best (view c.args.ere.now))
    (λ _ h. subst Best tree h) c.walk_parts.ensures

pub walk-returns-in-Alt : goal.walk-returns-in-Alt
walk-returns-in-Alt t c =
    let ts = map view c.as_slice-in-Alt.result.now in
    let Best = λ (t : Tree). SetsBest c.args.text.now t c.args.part.start c.args.part.from c.args.part.to
    (length c.args.caps.now) c.args.caps.now c.walk_one.new.caps in
    let tree : alt (trees_of ts) ≡ view c.args.ere.now =
    ap (λ (xs : List Ere). alt (trees_of (map view xs))) c.as_slice-in-Alt.ensures
    ∙ sym (ap view c.in-Alt.is ∙ view_Alt c.in-Alt.choices ∙ ap alt (trees_in_map c.in-Alt.choices)) in
    IfOk-weaker c.walk_one.result (λ _. Best (alt (trees_of ts))) (λ _. Best (view c.args.ere.now))
    (λ _ h. subst Best tree h) c.walk_one.ensures

pub walk-returns-in-Repeat : goal.walk-returns-in-Repeat
walk-returns-in-Repeat t c =
    let inner = view c.deref.result.now in
    let Best = λ (t : Tree). SetsBest c.args.text.now t c.args.part.start c.args.part.from c.args.part.to
    (length c.args.caps.now) c.args.caps.now c.walk_members.new.caps in
    let tree : repeat inner c.in-Repeat.least c.in-Repeat.most ≡ view c.args.ere.now =
    ap (λ e. repeat (view e) c.in-Repeat.least c.in-Repeat.most) c.deref.ensures
    ∙ sym (ap view c.in-Repeat.is ∙ view_Repeat c.in-Repeat.inner c.in-Repeat.least c.in-Repeat.most) in
    IfOk-weaker c.walk_members.result (λ _. Best (repeat inner c.in-Repeat.least c.in-Repeat.most))
    (λ _. Best (view c.args.ere.now)) (λ _ h. subst Best tree h) c.walk_members.ensures

pub walk-returns-in_ok-walk-in-Group : goal.walk-returns-in_ok-walk-in-Group
walk-returns-in_ok-walk-in-Group t c =
    let s = c.args.text.now in
    let inner = view c.deref-in-Group.result.now in
    let n = c.in-Group.number in
    let part = c.args.part in
    let count = length c.args.caps.now in
    let old = c.args.caps.now in
    let mid = c.walk.new.caps in
    let new = c.set_group.new.caps in
    let tree : group n inner ≡ view c.args.ere.now =
    ap (λ e. group n (view e)) c.deref-in-Group.ensures
    ∙ sym (ap view c.in-Group.is ∙ view_Group n c.in-Group.inner) in
    let long : length mid ≡ count = omega (arith, c.walk.auto.caps) in
    subst (λ (t : Tree). SetsBest s t part.start part.from part.to count old new) tree
    (sets_group s n inner part.start part.from part.to count old mid new c.in_ok-walk-in-Group.ensures
    (subst (λ k. (d : Captures) → mid ≡ caps_of part.start d k
    → new ≡ caps_of part.start (insert d n (part.from, part.to)) k) long c.set_group.ensures))

-- MEMBERS

pub walk_members-rest-requires-clause-order : goal.walk_members-rest-requires-clause-order
walk_members-rest-requires-clause-order t c =
    (spans_part c.args.text.now (repeat (view c.args.inner.now) c.args.least c.args.most) c.args.part.from
    c.args.part.to c.requires.span).0

pub walk_members-rest-requires-clause-within : goal.walk_members-rest-requires-clause-within
walk_members-rest-requires-clause-within t c =
    (spans_part c.args.text.now (repeat (view c.args.inner.now) c.args.least c.args.most) c.args.part.from
    c.args.part.to c.requires.span).1

pub walk_members-loop-least-init : goal.walk_members-loop-least-init
walk_members-loop-least-init t c =
    let s = c.args.text.now in
    let inner = view c.args.inner.now in
    let part = c.args.part in
    record {
      order = omega arith;
      span = c.requires.span;
      held = along (λ n o. RestOf s inner n o part.from part.to c.in_ok-set.set) c.saturating_sub-fewer.result
          (c.args.least - 1) c.less_one.result (less_one c.args.most) (sym c.saturating_sub-fewer.ensures)
          (sym c.less_one.ensures) c.in_ok-set.ensures;
      goes = members_begin s inner c.args.least c.args.most part.start (length c.args.caps.now) part.from part.to
          c.args.caps.now;
    }

pub walk_members-greatest_end-requires-clause-order : goal.walk_members-greatest_end-requires-clause-order
walk_members-greatest_end-requires-clause-order t c =
    (spans_part c.args.text.now (repeat (view c.args.inner.now) c.loop-least.least c.loop-least.most)
    c.loop-least.from c.args.part.to c.loop-least.invariant.span).0

pub walk_members-greatest_end-requires-clause-within : goal.walk_members-greatest_end-requires-clause-within
walk_members-greatest_end-requires-clause-within t c =
    (spans_part c.args.text.now (repeat (view c.args.inner.now) c.loop-least.least c.loop-least.most)
    c.loop-least.from c.args.part.to c.loop-least.invariant.span).1

pub walk_members-greatest_end-requires-clause-some : goal.walk_members-greatest_end-requires-clause-some
walk_members-greatest_end-requires-clause-some t c =
    let s = c.args.text.now in
    let inner = view c.args.inner.now in
    let l = c.loop-least in
    let j = c.args.part.to in
    let on : l.least ≡ 0 → l.from < j =
    λ z. elim c.if-least-gt0.branch [
      | walk_members-then-least-gt0 w ↦ absurd (omega (arith, z, w.if-least-gt0.true))
      | walk_members-else-least-gt0+then-from-part w ↦ w.if-from-part.true
    ] in
    let b = repeat_begins s inner l.least l.most l.from j l.invariant.span on in
    let here = spans_part s inner l.from b.0 b.1 in
    let behind = spans_part s (repeat inner (l.least - 1) (less_one l.most)) b.0 j b.3 in
    (b.0, b.1, behind.0, (l.invariant.held b.0).1 (b.3, omega (arith, l.invariant.order, here.0)))

pub walk_members-rest_behind-requires-clause-within : goal.walk_members-rest_behind-requires-clause-within
walk_members-rest_behind-requires-clause-within t c =
    (spans_part c.args.text.now (repeat (view c.args.inner.now) c.loop-least.least c.loop-least.most)
    c.loop-least.from c.args.part.to c.loop-least.invariant.span).1

pub walk_members-loop-least-smaller : goal.walk_members-loop-least-smaller
walk_members-loop-least-smaller t c =
    let s = c.args.text.now in
    let inner = view c.args.inner.now in
    let l = c.loop-least in
    let i = l.invariant in
    let j = c.args.part.to in
    let m = c.in_ok-to.to in
    let g = c.in_ok-to.ensures in
    let on : l.least ≡ 0 → l.from < j =
    λ z. elim c.if-least-gt0.branch [
      | walk_members-then-least-gt0 w ↦ absurd (omega (arith, z, w.if-least-gt0.true))
      | walk_members-else-least-gt0+then-from-part w ↦ w.if-from-part.true
    ] in
    let b = repeat_begins s inner l.least l.most l.from j i.span on in
    let first = spans_part s inner l.from b.0 b.1 in
    let here = spans_part s inner l.from m g.0 in
    let behind = spans_part s (repeat inner (l.least - 1) (less_one l.most)) b.0 j b.3 in
    let far : b.0 ≤ m =
    g.3 b.0 b.1 behind.0 ((i.held b.0).1 (b.3, omega (arith, i.order, first.0))) in
    let fewer : c.saturating_sub-least.result ≡ l.least - 1 = c.saturating_sub-least.ensures in
    let less : c.saturating_sub-least.result + (j - m) < l.least + (j - l.from) =
    elim c.if-least-gt0.branch [
      | walk_members-then-least-gt0 w ↦ omega (arith, fewer, w.if-least-gt0.true, here.0, g.1)
      | walk_members-else-least-gt0+then-from-part w ↦
          let z : l.least ≡ 0 = omega (arith, w.if-least-gt0.false) in
          let more = b.2 z in
          omega (arith, fewer, z, more, far, g.1)
    ] in
    less

pub walk_members-loop-least-preserved : goal.walk_members-loop-least-preserved
walk_members-loop-least-preserved t c =
    let s = c.args.text.now in
    let inner = view c.args.inner.now in
    let l = c.loop-least in
    let i = l.invariant in
    let part = c.args.part in
    let j = part.to in
    let m = c.in_ok-to.to in
    let g = c.in_ok-to.ensures in
    let count = length c.args.caps.now in
    let old = c.args.caps.now in
    let new = c.walk.new.caps in
    let low = c.saturating_sub-least.result in
    let high = c.less_one-most.result in
    let on : l.least ≡ 0 → l.from < j =
    λ z. elim c.if-least-gt0.branch [
      | walk_members-then-least-gt0 w ↦ absurd (omega (arith, z, w.if-least-gt0.true))
      | walk_members-else-least-gt0+then-from-part w ↦ w.if-from-part.true
    ] in
    let b = repeat_begins s inner l.least l.most l.from j i.span on in
    let first = spans_part s inner l.from b.0 b.1 in
    let here = spans_part s inner l.from m g.0 in
    let behind = spans_part s (repeat inner (l.least - 1) (less_one l.most)) b.0 j b.3 in
    let far : b.0 ≤ m =
    g.3 b.0 b.1 behind.0 ((i.held b.0).1 (b.3, omega (arith, i.order, first.0))) in
    let fewer : low ≡ l.least - 1 = c.saturating_sub-least.ensures in
    let lower : high ≡ less_one l.most = c.less_one-most.ensures in
    let rest = (i.held m).0 g.2 in
    let long : length l.caps ≡ count = omega (arith, l.auto.caps) in
    let one : SetsBest s inner part.start l.from m count l.caps new =
    subst (λ n. SetsBest s inner part.start l.from m n l.caps new) long c.in_ok-walk.ensures in
    let greatest : (k : ℕ) → Spans s inner l.from k → Spans s (repeat inner (l.least - 1) (less_one l.most)) k j → k ≤ m =
    λ k h r.
    let at = spans_part s inner l.from k h in
    let past = spans_part s (repeat inner (l.least - 1) (less_one l.most)) k j r in
    g.3 k h past.0 ((i.held k).1 (r, omega (arith, i.order, at.0))) in
    record {
      order = omega (arith, i.order, here.0);
      span = along (λ n o. Spans s (repeat inner n o) m j) (l.least - 1) low (less_one l.most) high fewer lower rest.0;
      held = along (λ n o. RestOf s inner (n - 1) (less_one o) part.from j c.in_ok-set-2.set) (l.least - 1) low
          (less_one l.most) high fewer lower c.in_ok-set-2.ensures;
      goes = along
          (λ n o. MembersTo s inner c.args.least c.args.most n o part.start count part.from m j old new)
          (l.least - 1) low (less_one l.most) high fewer lower
          (members_more s inner c.args.least c.args.most l.least l.most part.start count part.from l.from m j old
          l.caps new i.goes one (λ z. let more = b.2 z in omega (arith, more, far)) b.4 greatest);
    }

pub walk_members-returns : goal.walk_members-returns
walk_members-returns t c =
    let s = c.args.text.now in
    let inner = view c.args.inner.now in
    let l = c.loop-least in
    let part = c.args.part in
    let count = length c.args.caps.now in
    let lies = spans_part s (repeat inner l.least l.most) l.from part.to l.invariant.span in
    let z : l.least ≡ 0 = omega (arith, c.if-least-gt0.false) in
    let over : l.from ≡ part.to = omega (arith, lies.0, c.if-from-part.false) in
    members_end s inner c.args.least c.args.most l.most part.start count part.from l.from part.to c.args.caps.now
    l.caps
    (subst (λ n. MembersTo s inner c.args.least c.args.most n l.most part.start count part.from l.from part.to
    c.args.caps.now l.caps) z l.invariant.goes) over lies.1

-- ALTERNATIVES

pub walk_one-spans-requires-clause-no_refs : goal.walk_one-spans-requires-clause-no_refs
walk_one-spans-requires-clause-no_refs t c =
    view_no_refs c.args.choices.now c.loop-one.one-index c.one-item.result c.loop-one-test.true c.one-item.is
    c.requires.no_refs

pub walk_one-spans-requires-clause-order : goal.walk_one-spans-requires-clause-order
walk_one-spans-requires-clause-order t c =
    (one_is_part c.args.text.now (map view c.args.choices.now) c.args.part.from c.args.part.to c.requires.span).0

pub walk_one-spans-requires-clause-within : goal.walk_one-spans-requires-clause-within
walk_one-spans-requires-clause-within t c =
    (one_is_part c.args.text.now (map view c.args.choices.now) c.args.part.from c.args.part.to c.requires.span).1

pub walk_one-walk-requires : goal.walk_one-walk-requires
walk_one-walk-requires t c =
    let items = c.args.choices.now in
    let one = c.one-item.result in
    let k = c.loop-one.one-index in
    let room = room_at items k one (length c.args.caps.now) c.loop-one-test.true c.one-item.is c.requires.room in (
      omega (arith, c.decreases, depth_at items k one c.loop-one-test.true c.one-item.is),
      (
        view_no_refs items k one c.loop-one-test.true c.one-item.is c.requires.no_refs,
        (
          c.in_ok-spans.ensures.0 c.if-branch.true,
          (omega (arith, room, ap length c.loop-one.invariant.same), c.requires.fits),
        ),
      ),
    )

pub walk_one-returns-then-branch : goal.walk_one-returns-then-branch
walk_one-returns-then-branch t c =
    let s = c.args.text.now in
    let items = c.args.choices.now in
    let one = c.one-item.result in
    let k = c.loop-one.one-index in
    let part = c.args.part in
    let old = c.args.caps.now in
    let now = c.loop-one.caps in
    let new = c.walk.new.caps in
    IfOk-weaker c.walk.result
    (λ _. SetsBest s (view one) part.start part.from part.to (length now) now new)
    (λ _. SetsBest s (alt (trees_of (map view items))) part.start part.from part.to (length old) old new)
    (λ _ h. sets_one s (map view items) k (view one) part.start part.from part.to (length old) old new
    (tree_here items k one c.loop-one-test.true c.one-item.is) c.loop-one.invariant.first
    (subst (λ (xs : List (Option Cap)). SetsBest s (view one) part.start part.from part.to (length xs) xs new)
    c.loop-one.invariant.same h)) c.walk.ensures

pub walk_one-loop-one-preserved : goal.walk_one-loop-one-preserved
walk_one-loop-one-preserved t c =
    let s = c.args.text.now in
    let items = c.args.choices.now in
    let one = c.one-item.result in
    let k = c.loop-one.one-index in
    let part = c.args.part in
    let i = c.loop-one.invariant in
    let other : Spans s (view one) part.from part.to → ⊥ = λ h. true≢false (sym (c.in_ok-spans.ensures.1 h) ∙ c.if-branch.false) in
    record {
      rest = one_behind s items k one part.from part.to c.loop-one-test.true c.one-item.is other i.rest;
      first = none_more s items k one part.from part.to c.loop-one-test.true c.one-item.is i.first other;
      same = i.same;
    }

-- PARTS

pub walk_parts-loop-one-init : goal.walk_parts-loop-one-init
walk_parts-loop-one-init t c = record {
  no_refs = c.requires.no_refs;
  room = c.requires.room;
  depth = omega arith;
  order = omega arith;
  span = c.requires.span;
  held = λ m one fits low is. absurd (omega (arith, low, c.new-held.ensures.len));
  goes = parts_begin c.args.text.now (map view c.args.parts.now) c.args.part.start (length c.args.caps.now)
      c.args.part.from c.args.part.to c.args.caps.now;
}

pub walk_parts-part_end-requires-clause-held : goal.walk_parts-part_end-requires-clause-held
walk_parts-part_end-requires-clause-held t c =
    let part = c.args.part in
    rests_behind c.args.text.now c.in-Some.one.now c.in-Some.others.now part.from part.to c.loop-one.held
    (subst (λ (xs : List Ere). AreRests c.args.text.now xs part.from part.to c.loop-one.held) c.in-Some.ensures.cases.0
    c.loop-one.invariant.held)

pub walk_parts-loop-one-preserved : goal.walk_parts-loop-one-preserved
walk_parts-loop-one-preserved t c =
    let s = c.args.text.now in
    let one = view c.in-Some.one.now in
    let others = c.in-Some.others.now in
    let from = c.loop-one.from in
    let part = c.args.part in
    let m = c.in_ok-to.to in
    let end = c.in_ok-to.ensures.end in
    let i = c.loop-one.invariant in
    let ts = map view c.args.parts.now in
    let count = length c.args.caps.now in
    let old = c.args.caps.now in
    let now = c.loop-one.caps in
    let new = c.walk.new.caps in
    let list = c.in-Some.ensures.cases.0 in
    let trees = ap (λ (xs : List Ere). trees_of (map view xs)) list in
    let long : length now ≡ count = omega (arith, c.loop-one.auto.caps) in
    record {
      no_refs = no_right (has_refs one) (any_has_refs (trees_of (map view others)))
          (sym (ap any_has_refs trees) ∙ i.no_refs);
      room = omega (arith, ap greatest_group_of trees, i.room);
      depth = omega (arith, ap depth_of trees, i.depth);
      order = omega (arith, i.order, (spans_part s one from m end.0).0);
      span = end.1;
      held = c.in_ok-to.ensures.held;
      goes = parts_more s ts one (map view others) part.start count part.from from m part.to old now new
          (subst (λ (xs : List Ere). PartsTo s ts (map view xs) part.start count part.from from part.to old now) list
          i.goes)
          (subst (λ q. SetsBest s one part.start from m q now new) long c.in_ok-walk.ensures) end.2;
    }

pub walk_parts-returns : goal.walk_parts-returns
walk_parts-returns t c =
    let s = c.args.text.now in
    let ts = map view c.args.parts.now in
    let part = c.args.part in
    let from = c.loop-one.from in
    let count = length c.args.caps.now in
    let old = c.args.caps.now in
    let now = c.loop-one.caps in
    let none = drop_all 0 c.loop-one.rest.now (omega (arith, c.in_default.ensures.cases)) in
    parts_end s ts part.start count part.from from part.to old now
    (subst (λ (xs : List Ere). PartsTo s ts (map view xs) part.start count part.from from part.to old now) none
    c.loop-one.invariant.goes)
    (subst (λ (xs : List Ere). SpanAll s (map view xs) from part.to) none c.loop-one.invariant.span)
