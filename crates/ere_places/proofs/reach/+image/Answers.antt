-- The functions that go through an expression: parts, alternatives, members, and the whole.
-- Each loop says what is reached so far, and what the definition adds from there; each step is a lemma on relations
-- between places, and each return turns such a relation into what the tree leads to.
use Rattle.std.proofs.Common.{◌≡◌, ◌↔◌, ℕ, ◌+◌, ◌-◌, ◌<◌, ◌≤◌, IsTrue, Some, List, [], length, map, drop, false, sym, ap, ◌∙◌, subst, inl, inr, arith, rules, length-take}
use Rattle.std.specs.Prelude.{◌⊎◌}
use Rattle.std.specs.List.{All, Contains}
use Rattle.std.proofs.lemmas.List.{drop_all}
use Rattle.std.proofs.lemmas.List.Elements.{All-contains, All-drop}
use Rattle.std.proofs.lemmas.Result.{IfOk-weaker}
use Rattle.ere_tree.proofs.ViewLemmas.{view_Cat, view_Alt, view_Repeat, view_Group}
use Rattle.ere_places.proofs.TreesLemmas.{trees_in_map}
use Rattle.ere_tree.specs.Shape.{has_refs, any_has_refs}
use Rattle.ere_tree.specs.Tree.{Tree, cat, alt, repeat, group, trees_of}
use Rattle.ere_tree.specs.View.{view}
use Rattle.ere_tree.specs.declared.ere.Ere.{Ere}
use denote.Param.Weighed.{most}
use Rattle.ere_tree.proofs.ere.Ere.TheLaws.{the_size}
use Rattle.ere_places.specs.Places.{AreBoth, IsInside, LeadsInside, IsReached, AreReached}
use Rattle.ere_places.specs.Seen.{is_beyond}
use Rattle.ere_places.specs.Steps.{Chain, ChainUpTo, Through, ByOne, in_order, further_members}
use Rattle.ere_places.proofs.ReachLemmas.{Round, all_each, reached_inside, reached_beyond, through_more, through_over, through_reached, one_more, one_over, one_reached, round_more, round_first, round_last, round_over, least_more, least_over, repeat_reached, view_no_refs, at_order, length_order, views_from, then_both, turned, no_deeper}
use Rattle.ere_places.proofs.WindowLemmas.{group_steps}
use Rattle.ere_places.proofs.reach.+image.Goals as goal

-- MEMBERS

pub by_members-loop-init : goal.by_members-loop-init
by_members-loop-init t c =
    let s = c.args.text.now in
    let R = LeadsInside s (view c.args.inner.now) c.args.window in
    let from = c.args.from.now in
    let all = c.put_new.new.list.items in
    let seen = c.put_new.new.seen in
    let put = c.in_ok-put_new.ensures in
    let both : AreBoth [] from all = subst (λ (xs : List ℕ). AreBoth xs from all) c.new-all.ensures.items put.all in
    let was : (q : ℕ) → Contains all q → Contains from q = λ q h.
    elim ((both q).0 h) [ inl none ↦ absurd (omega (arith, none.1)) | inr is ↦ is ] in
    let base : seen.base ≡ c.nearest.result = put.base ∙ c.new-seen.ensures.base in
    let direction : seen.direction ≡ c.args.window.direction = put.direction ∙ c.new-seen.ensures.direction in
    let near : All (λ p. IsTrue (is_beyond seen.direction seen.base p)) from =
    (subst (λ d. All (λ p. IsTrue (is_beyond d seen.base p)) from) (sym direction)
    (subst (λ b. All (λ p. IsTrue (is_beyond c.args.window.direction b p)) from) (sym base) c.nearest.ensures)) in
    let round = round_first R from all both in
    record {
      held = put.same;
      near = all_each (λ p. IsTrue (is_beyond seen.direction seen.base p)) all
          (λ q h. All-contains (λ p. IsTrue (is_beyond seen.direction seen.base p)) from q near (was q h));
      direction = direction;
      done = omega arith;
      inside = all_each (IsInside c.args.window) all
          (λ q h. All-contains (IsInside c.args.window) from q c.requires.inside (was q h));
      sound = round.sound;
      front = round.front;
      closed = round.closed;
    }

pub by_members-returns-then-done-len : goal.by_members-returns-then-done-len
by_members-returns-then-done-len t c =
    let i = c.loop.invariant in
    let over : c.loop.done ≡ length c.loop.all.items =
    c.if-done-len.true ∙ omega (arith, c.len.ensures, c.loop.all.ok) in
    round_over (LeadsInside c.args.text.now (view c.args.inner.now) c.args.window) c.args.from.now c.loop.all.items
    c.loop.done c.loop.counter c.args.most (record { sound = i.sound; front = i.front; closed = i.closed }) over
    (omega arith)

pub by_members-put_new-requires-in-loop-clause-beyond : goal.by_members-put_new-requires-in-loop-clause-beyond
by_members-put_new-requires-in-loop-clause-beyond t c =
    let s = c.args.text.now in
    let R = LeadsInside s (view c.args.inner.now) c.args.window in
    let all = c.loop.all.items in
    let found = c.as_slice-in-loop.result.now in
    let seen = c.loop.seen in
    let behind : c.split_at.result.1.now ≡ drop c.loop.done all =
    c.split_at.ensures.back ∙ ap (drop c.loop.done) c.as_slice.ensures.value in
    let reached : AreReached R (drop c.loop.done all) found =
    subst (λ (xs : List ℕ). AreReached R xs found) behind
    (subst (AreReached R c.split_at.result.1.now) (sym c.as_slice-in-loop.ensures.value) c.in_ok-next.ensures) in
    reached_beyond s (view c.args.inner.now) c.args.window seen.direction seen.base (drop c.loop.done all) found
    c.loop.invariant.direction
    (All-drop (λ p. IsTrue (is_beyond seen.direction seen.base p)) c.loop.done all c.loop.invariant.near) reached

pub by_members-loop-preserved : goal.by_members-loop-preserved
by_members-loop-preserved t c =
    let s = c.args.text.now in
    let R = LeadsInside s (view c.args.inner.now) c.args.window in
    let from = c.args.from.now in
    let all = c.loop.all.items in
    let found = c.as_slice-in-loop.result.now in
    let new = c.put_new-in-loop.new.list.items in
    let old = c.loop.seen in
    let seen = c.put_new-in-loop.new.seen in
    let put = c.in_ok-put_new-2.ensures in
    let i = c.loop.invariant in
    let behind : c.split_at.result.1.now ≡ drop c.loop.done all =
    c.split_at.ensures.back ∙ ap (drop c.loop.done) c.as_slice.ensures.value in
    let reached : AreReached R (drop c.loop.done all) found =
    subst (λ (xs : List ℕ). AreReached R xs found) behind
    (subst (AreReached R c.split_at.result.1.now) (sym c.as_slice-in-loop.ensures.value) c.in_ok-next.ensures) in
    let near : All (λ p. IsTrue (is_beyond seen.direction seen.base p)) all =
    subst (λ d. All (λ p. IsTrue (is_beyond d seen.base p)) all) (sym put.direction)
    (subst (λ b. All (λ p. IsTrue (is_beyond old.direction b p)) all) (sym put.base) i.near) in
    let direction : seen.direction ≡ c.args.window.direction = put.direction ∙ i.direction in
    let beyond = reached_beyond s (view c.args.inner.now) c.args.window seen.direction seen.base
    (drop c.loop.done all) found direction
    (All-drop (λ p. IsTrue (is_beyond seen.direction seen.base p)) c.loop.done all near) reached in
    let inside = reached_inside s (view c.args.inner.now) c.args.window (drop c.loop.done all) found reached in
    let long : c.len-done.result ≡ length all = omega (arith, c.len-done.ensures, c.loop.all.ok) in
    let round : Round R from new c.len-done.result (c.loop.counter + 1) =
    subst (λ n. Round R from new n (c.loop.counter + 1)) (sym long)
    (round_more R from all found new c.loop.done c.loop.counter
    (record { sound = i.sound; front = i.front; closed = i.closed }) reached put.all put.front) in
    let fits : length all ≤ length new = omega (arith, ap length put.front, length-take (length all) new) in
    record {
      held = put.same;
      near = all_each (λ p. IsTrue (is_beyond seen.direction seen.base p)) new (λ q h. elim ((put.all q).0 h) [
        | inl was ↦ All-contains (λ p. IsTrue (is_beyond seen.direction seen.base p)) all q near was
        | inr is ↦ All-contains (λ p. IsTrue (is_beyond seen.direction seen.base p)) found q beyond is
      ]);
      direction = direction;
      done = omega (arith, long, fits);
      inside = all_each (IsInside c.args.window) new (λ q h. elim ((put.all q).0 h) [
        | inl was ↦ All-contains (IsInside c.args.window) all q i.inside was
        | inr is ↦ All-contains (IsInside c.args.window) found q inside is
      ]);
      sound = round.sound;
      front = round.front;
      closed = round.closed;
    }

pub by_members-returns : goal.by_members-returns
by_members-returns t c =
    let i = c.loop.invariant in
    round_last (LeadsInside c.args.text.now (view c.args.inner.now) c.args.window) c.args.from.now c.loop.all.items
    c.loop.done c.loop.counter c.args.most (record { sound = i.sound; front = i.front; closed = i.closed })
    (omega arith)

-- ALTERNATIVES

pub by_one-image-requires : goal.by_one-image-requires
by_one-image-requires t c =
    let items = c.args.choices.now in
    let less : the_size c.one-item.result ≤ most the_size items =
    no_deeper items c.one-item.result c.loop-one.one-index c.one-item.is c.loop-one-test.true in (
      search rules,
      (
        view_no_refs items c.loop-one.one-index c.one-item.result c.loop-one-test.true c.one-item.is c.requires.no_refs,
        (c.requires.window, c.requires.inside),
      ),
    )

pub by_one-put_new-requires-clause-beyond : goal.by_one-put_new-requires-clause-beyond
by_one-put_new-requires-clause-beyond t c =
    let seen = c.loop-one.seen in
    let R = LeadsInside c.args.text.now (view c.one-item.result) c.args.window in
    reached_beyond c.args.text.now (view c.one-item.result) c.args.window seen.direction seen.base c.args.from.now
    c.as_slice.result.now c.loop-one.invariant.direction c.loop-one.invariant.near
    (subst (AreReached R c.args.from.now) (sym c.as_slice.ensures.value) c.in_ok-found.ensures)

pub by_one-loop-one-preserved : goal.by_one-loop-one-preserved
by_one-loop-one-preserved t c =
    let s = c.args.text.now in
    let window = c.args.window in
    let from = c.args.from.now in
    let items = c.args.choices.now in
    let one = c.one-item.result in
    let k = c.loop-one.one-index in
    let old = c.loop-one.seen in
    let seen = c.put_new.new.seen in
    let all = c.loop-one.all.items in
    let new = c.put_new.new.list.items in
    let put = c.in_ok-put_new.ensures in
    let i = c.loop-one.invariant in
    let found = c.as_slice.result.now in
    let reached : AreReached (LeadsInside s (view one) window) from found =
    subst (AreReached (LeadsInside s (view one) window) from) (sym c.as_slice.ensures.value) c.in_ok-found.ensures in
    let views = views_from items k one c.loop-one-test.true c.one-item.is in
    record {
      held = put.same;
      near = subst (λ d. All (λ p. IsTrue (is_beyond d seen.base p)) from) (sym put.direction)
          (subst (λ b. All (λ p. IsTrue (is_beyond old.direction b p)) from) (sym put.base) i.near);
      direction = put.direction ∙ i.direction;
      rest = λ q. then_both
          (one_more s window (view one) (map view (drop (k + 1) items)) from found all new q reached put.all)
          (subst (λ (ts : List Tree). (Contains all q ⊎ IsReached (ByOne s window ts) from q)
          ↔ IsReached (ByOne s window (map view items)) from q) views (i.rest q));
    }

pub by_one-returns : goal.by_one-returns
by_one-returns t c =
    let s = c.args.text.now in
    let window = c.args.window in
    let from = c.args.from.now in
    let items = c.args.choices.now in
    let all = c.loop-one.all.items in
    let none = ap (map view) (drop_all c.loop-one.one-index items c.loop-one-test.false) in
    λ q. then_both (turned (one_over s window from all q))
    (subst (λ (ts : List Tree). (Contains all q ⊎ IsReached (ByOne s window ts) from q)
    ↔ IsReached (ByOne s window (map view items)) from q) none (c.loop-one.invariant.rest q))

-- A REPEAT

pub image_of_repeat-loop-preserved : goal.image_of_repeat-loop-preserved
image_of_repeat-loop-preserved t c =
    let s = c.args.text.now in
    let R = LeadsInside s (view c.args.inner.now) c.args.window in
    let now = c.loop.now.items in
    let new = c.in_ok-now-in-Some-2.now.items in
    let reached : AreReached R now new =
    subst (λ (xs : List ℕ). AreReached R xs new) c.as_slice.ensures.value c.in_ok-now-in-Some-2.ensures in
    record {
      inside = reached_inside s (view c.args.inner.now) c.args.window now new reached;
      rest = λ q. then_both (least_more R c.args.least c.loop.counter now new q c.loop-test.true reached)
          (c.loop.invariant.rest q);
    }

pub image_of_repeat-returns-after-loop : goal.image_of_repeat-returns-after-loop
image_of_repeat-returns-after-loop t c =
    let s = c.args.text.now in
    let inner = view c.args.inner.now in
    let R = LeadsInside s inner c.args.window in
    let from = c.args.from.now in
    let now = c.as_slice-in-Some.result.now in
    let first : AreReached (Chain R c.args.least) from now =
    subst (AreReached (Chain R c.args.least) from) (sym c.as_slice-in-Some.ensures.value)
    (λ q. then_both (turned (least_over R c.args.least c.loop.counter c.loop.now.items q c.loop-test.false))
    (c.loop.invariant.rest q)) in
    let is : further_members c.args.least c.args.most (c.args.window.high - c.args.window.low) ≡ Some c.in-Some.more =
    ap (further_members c.args.least c.args.most) (sym c.saturating_sub.ensures)
    ∙ sym c.further_members.ensures ∙ c.in-Some.is in
    IfOk-weaker c.by_members.result (λ found. AreReached (ChainUpTo R c.in-Some.more) now found.items)
    (λ found. AreReached (LeadsInside s (repeat inner c.args.least c.args.most) c.args.window) from found.items)
    (λ found rest. repeat_reached s c.args.window inner c.requires.no_refs c.args.least c.args.most c.in-Some.more
    from now found.items is c.requires.window c.requires.inside first rest)
    c.by_members.ensures

-- PARTS

pub through-image-requires : goal.through-image-requires
through-image-requires t c =
    let items = c.args.parts.now in
    let less : the_size c.index-parts-at.result ≤ most the_size items =
    no_deeper items c.index-parts-at.result c.place_in-at.result c.index-parts-at.is c.place_in-at.ensures.within in (
      search rules,
      (
        view_no_refs items c.place_in-at.result c.index-parts-at.result c.place_in-at.ensures.within c.index-parts-at.is
            c.requires.no_refs,
        (
          c.requires.window,
          subst (All (IsInside c.args.window)) (sym c.as_slice.ensures.value) c.loop-index.invariant.inside,
        ),
      ),
    )

pub through-loop-index-preserved : goal.through-loop-index-preserved
through-loop-index-preserved t c =
    let s = c.args.text.now in
    let window = c.args.window in
    let items = c.args.parts.now in
    let part = c.index-parts-at.result in
    let k = c.loop-index.index in
    let order = in_order window.direction (map view items) in
    let now = c.loop-index.now.items in
    let new = c.in_ok-now-2.now.items in
    let reached : AreReached (LeadsInside s (view part) window) now new =
    subst (λ (xs : List ℕ). AreReached (LeadsInside s (view part) window) xs new) c.as_slice.ensures.value
    c.in_ok-now-2.ensures in
    let low : k < length order = omega (arith, length_order window.direction items, c.loop-index-test.true) in
    record {
      inside = reached_inside s (view part) window now new reached;
      rest = λ q. then_both (through_more s window order k (view part) now new q low
          (at_order window.direction items k c.place_in-at.result part c.loop-index-test.true
          c.place_in-at.ensures.value c.index-parts-at.is) reached) (c.loop-index.invariant.rest q);
    }

pub through-returns : goal.through-returns
through-returns t c =
    let s = c.args.text.now in
    let window = c.args.window in
    let items = c.args.parts.now in
    let order = in_order window.direction (map view items) in
    let now = c.loop-index.now.items in
    let past : length order ≤ c.loop-index.index =
    omega (arith, length_order window.direction items, c.loop-index-test.false) in
    λ q. then_both (turned (through_over s window order c.loop-index.index now q past)) (c.loop-index.invariant.rest q)

-- THE WHOLE

pub image-returns-in-Cat : goal.image-returns-in-Cat
image-returns-in-Cat t c =
    let s = c.args.text.now in
    let window = c.args.window in
    let from = c.args.from.now in
    let ts = map view c.as_slice.result.now in
    let tree : cat (trees_of ts) ≡ view c.args.ere.now =
    ap (λ (xs : List Ere). cat (trees_of (map view xs))) c.as_slice.ensures
    ∙ sym (ap view c.in-Cat.is ∙ view_Cat c.in-Cat.parts ∙ ap cat (trees_in_map c.in-Cat.parts)) in
    let refs : any_has_refs (trees_of ts) ≡ false = ap has_refs tree ∙ c.requires.no_refs in
    IfOk-weaker c.through.result
    (λ found. AreReached (Through s window (in_order window.direction ts)) from found.items)
    (λ found. AreReached (LeadsInside s (view c.args.ere.now) window) from found.items)
    (λ found h. subst (λ (t : Tree). AreReached (LeadsInside s t window) from found.items) tree
    (through_reached s window ts from found.items refs c.requires.window c.requires.inside h))
    c.through.ensures

pub image-returns-in-Alt : goal.image-returns-in-Alt
image-returns-in-Alt t c =
    let s = c.args.text.now in
    let window = c.args.window in
    let from = c.args.from.now in
    let ts = map view c.as_slice-in-Alt.result.now in
    let tree : alt (trees_of ts) ≡ view c.args.ere.now =
    ap (λ (xs : List Ere). alt (trees_of (map view xs))) c.as_slice-in-Alt.ensures
    ∙ sym (ap view c.in-Alt.is ∙ view_Alt c.in-Alt.choices ∙ ap alt (trees_in_map c.in-Alt.choices)) in
    IfOk-weaker c.by_one.result (λ found. AreReached (ByOne s window ts) from found.items)
    (λ found. AreReached (LeadsInside s (view c.args.ere.now) window) from found.items)
    (λ found h. subst (λ (t : Tree). AreReached (LeadsInside s t window) from found.items) tree
    (one_reached s window ts from found.items h))
    c.by_one.ensures

pub image-returns-in-Group : goal.image-returns-in-Group
image-returns-in-Group t c =
    let s = c.args.text.now in
    let window = c.args.window in
    let from = c.args.from.now in
    let inner = view c.deref.result.now in
    let tree : group c.in-Group.number inner ≡ view c.args.ere.now =
    ap (λ e. group c.in-Group.number (view e)) c.deref.ensures
    ∙ sym (ap view c.in-Group.is ∙ view_Group c.in-Group.number c.in-Group.inner) in
    IfOk-weaker c.image.result (λ found. AreReached (LeadsInside s inner window) from found.items)
    (λ found. AreReached (LeadsInside s (view c.args.ere.now) window) from found.items)
    (λ found h. subst (λ (t : Tree). AreReached (LeadsInside s t window) from found.items) tree
    (λ q. (
      λ has. let p = (h q).0 has in (p.0, p.1, (group_steps s window c.in-Group.number inner p.0 q).1 p.2),
      λ p. (h q).1 (p.0, p.1, (group_steps s window c.in-Group.number inner p.0 q).0 p.2),
    )))
    c.image.ensures

pub image-returns-in-Repeat : goal.image-returns-in-Repeat
image-returns-in-Repeat t c =
    let s = c.args.text.now in
    let window = c.args.window in
    let from = c.args.from.now in
    let inner = view c.deref-in-Repeat.result.now in
    let tree : repeat inner c.in-Repeat.least c.in-Repeat.most ≡ view c.args.ere.now =
    ap (λ e. repeat (view e) c.in-Repeat.least c.in-Repeat.most) c.deref-in-Repeat.ensures
    ∙ sym (ap view c.in-Repeat.is ∙ view_Repeat c.in-Repeat.inner c.in-Repeat.least c.in-Repeat.most) in
    IfOk-weaker c.image_of_repeat.result
    (λ found. AreReached (LeadsInside s (repeat inner c.in-Repeat.least c.in-Repeat.most) window) from found.items)
    (λ found. AreReached (LeadsInside s (view c.args.ere.now) window) from found.items)
    (λ found h. subst (λ (t : Tree). AreReached (LeadsInside s t window) from found.items) tree h)
    c.image_of_repeat.ensures
