-- The functions that go through an expression: parts, alternatives, members, and the whole. Each loop adds what is
-- reached through one block of middle places more, or by one alternative more; each return turns the relation that is
-- reached so into what the tree spans. The hard ones are those of `by_any`, where one member leads into the later blocks.
use Rattle.std.proofs.Common.{◌≡◌, ◌+◌, ◌-◌, ◌/◌, ◌<◌, ◌≤◌, min, None, Some, List, [], ◌∷◌, ◌++◌, length, map, take, false, sym, ap, ◌∙◌, subst, arith, rules}
use Rattle.std.proofs.lemmas.List.{length-map, take_all}
use Rattle.ere_tree.proofs.ViewLemmas.{view_Cat, view_Alt, view_Repeat, view_Group}
use Rattle.ere_tree.specs.Derivation.{Spans}
use Rattle.ere_tree.specs.Shape.{has_refs, any_has_refs}
use Rattle.ere_tree.specs.Tree.{Tree, cat, alt, repeat, group, trees_of}
use Rattle.ere_tree.specs.View.{view}
use Rattle.ere_tree.specs.declared.ere.Ere.{Ere}
use Rattle.ere_places.specs.Places.{SpanAll, SpanOne}
use Rattle.ere_places.proofs.ReachLemmas.{turned, view_no_refs}
use Rattle.ere_places.proofs.SpanLemmas.{spans_part, all_part, spans_cat, spans_alt, spans_group}
use Rattle.ere_places.proofs.TreesLemmas.{trees_in_map}
use Rattle.ere_whole.specs.Places.{AreReached, ChainAny, ChainBetween, PastBlock}
use Rattle.ere_whole.proofs.ChainLemmas.{any_ahead, between_ahead, between_within, chain_within, between_one, between_upto_one, between_split, any_past, repeat_between, repeat_at_least, any_near}
use Rattle.ere_whole.proofs.PartsLemmas.{all_within, all_append, refs_append, halves, one_append, views_more, all_alone}
use Rattle.ere_whole.proofs.ReachLemmas.{Middle, held_block, reached_as, reached_or, reached_stay, reached_inside, reached_closed, middle_first, middle_none, middle_more, middle_last}
use Rattle.ere_whole.proofs.WeightLemmas.{weight_halves, weight_one}
use Rattle.ere_whole.proofs.reach.+image.Goals as goal

-- MEMBERS

pub by_one_member-returns-then-least-eq1-clause-exact : goal.by_one_member-returns-then-least-eq1-clause-exact
by_one_member-returns-then-least-eq1-clause-exact t c =
    let R = Spans c.args.text.now (view c.args.inner.now) in
    subst (λ n. AreReached (ChainBetween R n 1) c.args.from.now c.image-found.result) (sym c.if-least-eq1.true)
    (reached_as R (ChainBetween R 1 1) c.args.from.now c.image-found.result (λ p q has here. between_one R p q)
    c.image-found.ensures.exact)

pub by_one_member-returns-clause-exact : goal.by_one_member-returns-clause-exact
by_one_member-returns-clause-exact t c =
    let R = Spans c.args.text.now (view c.args.inner.now) in
    let from = c.args.from.now in
    let new = c.add.new.self in
    let none : c.args.least ≡ 0 = omega (arith, c.requires.bounds) in
    subst (λ n. AreReached (ChainBetween R n 1) from new) (sym none)
    (reached_as _ (ChainBetween R 0 1) from new (λ p q has here. between_upto_one R p q)
    (reached_or R (λ p q. p ≡ q) from c.image-found.result c.only_in-none_more.result new (sym c.add.ensures.block)
    (c.only_in-none_more.ensures.block ∙ sym c.image-found.ensures.block ∙ sym c.add.ensures.block)
    c.add.ensures.held c.image-found.ensures.exact
    (reached_stay from c.only_in-none_more.result c.args.block c.only_in-none_more.ensures.block
    c.only_in-none_more.ensures.held)))

pub by_members-returns-then-most-eq1-clause-exact : goal.by_members-returns-then-most-eq1-clause-exact
by_members-returns-then-most-eq1-clause-exact t c =
    subst (λ n. AreReached (ChainBetween (Spans c.args.text.now (view c.args.inner.now)) c.args.least n) c.args.from.now
    c.by_one_member.result) (sym c.if-most-eq1.true) c.by_one_member.ensures.exact

pub by_members-loop-middle-init : goal.by_members-loop-middle-init
by_members-loop-middle-init t c =
    let s = c.args.text.now in
    let R = Spans s (view c.args.inner.now) in
    let half = c.args.most / 2 in
    record {
      block = c.none-found.ensures.block;
      reached = middle_first (ChainBetween R (min c.args.least half) half)
          (ChainBetween R (c.args.least - half) (c.args.most - half)) c.args.from.now c.none-found.result
          (between_ahead s (view c.args.inner.now) _ _)
          c.none-found.ensures.held;
    }

pub by_members-returns-then-is_same-clause-exact : goal.by_members-returns-then-is_same-clause-exact
by_members-returns-then-is_same-clause-exact t c =
    let s = c.args.text.now in
    let R = Spans s (view c.args.inner.now) in
    let from = c.args.from.now in
    let half = c.args.most / 2 in
    let same : c.by_members-between.result ≡ from = c.is_same.ensures c.if-is_same.true in
    let none : min c.args.least half ≡ 0 = omega (arith, c.if-least-eq0.true) in
    let once : AreReached (ChainBetween R 0 half) from from =
    subst (λ n. AreReached (ChainBetween R n half) from from) none
    (subst (AreReached (ChainBetween R (min c.args.least half) half) from) same
    (subst (λ n. AreReached (ChainBetween R n half) from c.by_members-between.result) c.min.ensures
    c.by_members-between.ensures.exact)) in
    subst (AreReached (ChainBetween R c.args.least c.args.most) from) (sym same)
    (subst (λ n. AreReached (ChainBetween R n c.args.most) from from) (sym c.if-least-eq0.true)
    (reached_closed R from half c.args.most (omega arith)
    (λ p q step. (spans_part s (view c.args.inner.now) p q step).0) once))

pub by_members-by_members-there-requires : goal.by_members-by_members-there-requires
by_members-by_members-there-requires t c =
    let s = c.args.text.now in
    let inner = view c.args.inner.now in
    let between = c.by_members-between in (
      omega (arith, c.decreases),
      (
        c.requires.no_refs,
        (
          omega (arith, c.requires.bounds, c.saturating_sub-rest.ensures),
          (
            omega (arith, between.ensures.block),
            (
              c.requires.within,
              reached_inside s (ChainBetween (Spans s inner) c.min.result (c.args.most / 2)) c.args.from.now
                  between.result (λ p q has. between_within s inner _ _ p q (c.requires.inside p has))
                  between.ensures.exact,
            ),
          ),
        ),
      ),
    )

pub by_members-loop-middle-preserved : goal.by_members-loop-middle-preserved
by_members-loop-middle-preserved t c =
    let R = Spans c.args.text.now (view c.args.inner.now) in
    let from = c.args.from.now in
    let half = c.args.most / 2 in
    let known = c.loop-middle.invariant in
    let between = c.by_members-between in
    let there = c.by_members-there in
    let add = c.add in
    record {
      block = add.ensures.block ∙ known.block;
      reached = middle_more (ChainBetween R (min c.args.least half) half)
          (ChainBetween R (c.args.least - half) (c.args.most - half)) from c.loop-middle.found between.result
          there.result add.new.self c.loop-middle.middle between.ensures.block (sym add.ensures.block)
          (there.ensures.block ∙ sym known.block ∙ sym add.ensures.block) add.ensures.held known.reached
          (subst (λ n. AreReached (ChainBetween R n half) from between.result) c.min.ensures between.ensures.exact)
          (subst (λ n. AreReached (ChainBetween R n (c.args.most - half)) between.result there.result)
          c.saturating_sub-rest.ensures there.ensures.exact);
    }

pub by_members-returns-clause-exact : goal.by_members-returns-clause-exact
by_members-returns-clause-exact t c =
    let s = c.args.text.now in
    let R = Spans s (view c.args.inner.now) in
    let half = c.args.most / 2 in
    let found = c.loop-middle.found in
    reached_as _ (ChainBetween R c.args.least c.args.most) c.args.from.now found
    (λ p q has here. between_split R c.args.least half c.args.most p q c.requires.bounds (omega arith))
    (middle_last (ChainBetween R (min c.args.least half) half) (ChainBetween R (c.args.least - half) (c.args.most - half))
    c.args.from.now found c.loop-middle.middle
    (between_ahead s (view c.args.inner.now) _ _)
    (omega (arith, c.loop-middle.invariant.block, c.loop-middle-test.false)) c.loop-middle.invariant.reached)

-- ALTERNATIVES

pub by_one-image-there-requires : goal.by_one-image-there-requires
by_one-image-there-requires t c =
    let items = c.args.choices.now in
    let one = c.one-item.result in
    let k = c.loop-one.one-index in
    let light = weight_one (length c.args.text.now) items k one c.loop-one-test.true c.one-item.is in (
      omega (arith, c.decreases, light),
      (
        view_no_refs items k one c.loop-one-test.true c.one-item.is c.requires.no_refs,
        (c.requires.order, (c.requires.within, c.requires.inside)),
      ),
    )

pub by_one-loop-one-preserved : goal.by_one-loop-one-preserved
by_one-loop-one-preserved t c =
    let s = c.args.text.now in
    let from = c.args.from.now in
    let items = c.args.choices.now in
    let one = c.one-item.result in
    let k = c.loop-one.one-index in
    let new = c.add.new.self in
    let known = c.loop-one.invariant in
    let ts = map view (take k items) in
    record {
      block = c.add.ensures.block ∙ known.block;
      reached = subst (λ (us : List Tree). AreReached (SpanOne s us) from new)
          (sym (views_more items k one c.loop-one-test.true c.one-item.is))
          (reached_as _ (SpanOne s (ts ++ view one ∷ [])) from new (λ p q has here. one_append s ts (view one) p q)
          (reached_or (SpanOne s ts) (Spans s (view one)) from c.loop-one.found c.image-there.result new
          (sym c.add.ensures.block) (c.image-there.ensures.block ∙ sym known.block ∙ sym c.add.ensures.block)
          c.add.ensures.held known.reached c.image-there.ensures.exact));
    }

pub by_one-returns-clause-exact : goal.by_one-returns-clause-exact
by_one-returns-clause-exact t c =
    subst (λ (xs : List Ere). AreReached (SpanOne c.args.text.now (map view xs)) c.args.from.now c.loop-one.found)
    (take_all c.loop-one.one-index c.args.choices.now c.loop-one-test.false) c.loop-one.invariant.reached

-- A REPEAT

pub by_at_least-loop-middle-init : goal.by_at_least-loop-middle-init
by_at_least-loop-middle-init t c =
    let s = c.args.text.now in
    let R = Spans s (view c.args.inner.now) in
    record {
      block = c.none-found.ensures.block;
      reached = middle_first (ChainBetween R c.args.least c.args.least) (ChainAny R) c.args.from.now c.none-found.result
          (between_ahead s (view c.args.inner.now) _ _)
          c.none-found.ensures.held;
    }

pub by_at_least-by_any-there-requires : goal.by_at_least-by_any-there-requires
by_at_least-by_any-there-requires t c =
    let s = c.args.text.now in
    let between = c.by_members-between in (
      omega (arith, c.decreases),
      (
        c.requires.no_refs,
        (
          omega (arith, between.ensures.block),
          (
            c.requires.within,
            reached_inside s (ChainBetween (Spans s (view c.args.inner.now)) c.args.least c.args.least) c.args.from.now
                between.result (λ p q has. between_within s (view c.args.inner.now) _ _ p q (c.requires.inside p has))
                between.ensures.exact,
          ),
        ),
      ),
    )

pub by_at_least-loop-middle-preserved : goal.by_at_least-loop-middle-preserved
by_at_least-loop-middle-preserved t c =
    let R = Spans c.args.text.now (view c.args.inner.now) in
    let known = c.loop-middle.invariant in
    let between = c.by_members-between in
    let there = c.by_any-there in
    record {
      block = c.add.ensures.block ∙ known.block;
      reached = middle_more (ChainBetween R c.args.least c.args.least) (ChainAny R) c.args.from.now c.loop-middle.found
          between.result there.result c.add.new.self c.loop-middle.middle between.ensures.block
          (sym c.add.ensures.block) (there.ensures.block ∙ sym known.block ∙ sym c.add.ensures.block)
          c.add.ensures.held known.reached between.ensures.exact there.ensures.exact;
    }

pub by_at_least-returns-clause-exact : goal.by_at_least-returns-clause-exact
by_at_least-returns-clause-exact t c =
    let s = c.args.text.now in
    let inner = view c.args.inner.now in
    let R = Spans s inner in
    let from = c.args.from.now in
    let found = c.loop-middle.found in
    reached_as _ (Spans s (repeat inner c.args.least None)) from found
    (λ p q has here. repeat_at_least s inner c.requires.no_refs c.args.least p q (c.requires.inside p has))
    (middle_last (ChainBetween R c.args.least c.args.least) (ChainAny R) from found c.loop-middle.middle
    (any_ahead s inner)
    (omega (arith, c.loop-middle.invariant.block, c.loop-middle-test.false)) c.loop-middle.invariant.reached)

-- ANY NUMBER OF MEMBERS

pub by_any_past-loop-middle-init : goal.by_any_past-loop-middle-init
by_any_past-loop-middle-init t c = record {
  block = c.none-found.ensures.block;
  reached = middle_none (λ p m. (c.args.last < m / 256) × Spans c.args.text.now (view c.args.inner.now) p m)
      (ChainAny (Spans c.args.text.now (view c.args.inner.now))) c.args.from.now c.none-found.result (c.args.last + 1)
      (λ p m h low. absurd (omega (arith, h.0, low))) c.none-found.ensures.held;
}

pub by_any_past-by_any-there-requires : goal.by_any_past-by_any-there-requires
by_any_past-by_any-there-requires t c =
    let s = c.args.text.now in
    let between = c.image-between in (
      omega (arith, c.decreases, between.ensures.block),
      (
        c.requires.no_refs,
        (
          omega (arith, between.ensures.block),
          (
            c.requires.within,
            reached_inside s _ c.args.from.now between.result
                (λ p q has h. (spans_part s (view c.args.inner.now) p q h).1) between.ensures.exact,
          ),
        ),
      ),
    )

pub by_any_past-loop-middle-preserved : goal.by_any_past-loop-middle-preserved
by_any_past-loop-middle-preserved t c =
    let R = Spans c.args.text.now (view c.args.inner.now) in
    let known = c.loop-middle.invariant in
    let between = c.image-between in
    let there = c.by_any-there in
    record {
      block = c.add.ensures.block ∙ known.block;
      reached = middle_more (λ p m. (c.args.last < m / 256) × R p m) (ChainAny R) c.args.from.now c.loop-middle.found
          between.result there.result c.add.new.self c.loop-middle.middle between.ensures.block
          (sym c.add.ensures.block) (there.ensures.block ∙ sym known.block ∙ sym c.add.ensures.block)
          c.add.ensures.held known.reached
          (reached_as R _ c.args.from.now between.result
          (λ p q has here. (λ h. (omega (arith, here, between.ensures.block), h), λ h. h.1)) between.ensures.exact)
          there.ensures.exact;
    }

pub by_any_past-returns-clause-exact : goal.by_any_past-returns-clause-exact
by_any_past-returns-clause-exact t c =
    let s = c.args.text.now in
    let inner = view c.args.inner.now in
    let R = Spans s inner in
    let found = c.loop-middle.found in
    reached_as _ (PastBlock c.args.last R (ChainAny R)) c.args.from.now found
    (λ p q has here. (λ (m, (past, step), rest). (m, past, step, rest), λ (m, past, step, rest). (m, (past, step), rest)))
    (middle_last (λ p m. (c.args.last < m / 256) × R p m) (ChainAny R) c.args.from.now found c.loop-middle.middle
    (any_ahead s inner)
    (omega (arith, c.loop-middle.invariant.block, c.loop-middle-test.false)) c.loop-middle.invariant.reached)

pub by_any-returns-then-from-block-clause-exact : goal.by_any-returns-then-from-block-clause-exact
by_any-returns-then-from-block-clause-exact t c =
    let s = c.args.text.now in
    let inner = view c.args.inner.now in
    let from = c.args.from.now in
    let found = c.by_members.result in
    reached_as (ChainBetween (Spans s inner) 0 256) (ChainAny (Spans s inner)) from found
    (λ p q has here. any_near s inner c.requires.no_refs p q (c.requires.inside p has)
    (sym (held_block from p has) ∙ c.if-from-block.true ∙ sym c.by_members.ensures.block ∙ sym here))
    c.by_members.ensures.exact

pub by_any-loop-middle-init : goal.by_any-loop-middle-init
by_any-loop-middle-init t c =
    let s = c.args.text.now in
    let R = Spans s (view c.args.inner.now) in
    let last = c.args.from.now.block + (c.args.block - c.args.from.now.block - 1) / 2 in
    record {
      block = c.none-found.ensures.block;
      reached = middle_first (ChainAny R) (PastBlock last R (ChainAny R)) c.args.from.now c.none-found.result
          (any_ahead s (view c.args.inner.now))
          c.none-found.ensures.held;
    }

pub by_any-by_any_past-there-requires : goal.by_any-by_any_past-there-requires
by_any-by_any_past-there-requires t c =
    let s = c.args.text.now in
    let between = c.by_any-between in (
      omega (arith, c.decreases, c.requires.order),
      (
        c.requires.no_refs,
        (
          omega (arith, between.ensures.block),
          (
            omega (arith, c.requires.order),
            (
              c.requires.within,
              reached_inside s _ c.args.from.now between.result
                  (λ p q has h. chain_within s (view c.args.inner.now) h.0 p q (c.requires.inside p has) h.1)
                  between.ensures.exact,
            ),
          ),
        ),
      ),
    )

pub by_any-loop-middle-preserved : goal.by_any-loop-middle-preserved
by_any-loop-middle-preserved t c =
    let R = Spans c.args.text.now (view c.args.inner.now) in
    let last = c.args.from.now.block + (c.args.block - c.args.from.now.block - 1) / 2 in
    let known = c.loop-middle.invariant in
    let between = c.by_any-between in
    let there = c.by_any_past-there in
    record {
      block = c.add.ensures.block ∙ known.block;
      reached = middle_more (ChainAny R) (PastBlock last R (ChainAny R)) c.args.from.now c.loop-middle.found
          between.result there.result c.add.new.self c.loop-middle.middle between.ensures.block
          (sym c.add.ensures.block) (there.ensures.block ∙ sym known.block ∙ sym c.add.ensures.block)
          c.add.ensures.held known.reached between.ensures.exact there.ensures.exact;
    }

pub by_any-returns-clause-exact : goal.by_any-returns-clause-exact
by_any-returns-clause-exact t c =
    let R = Spans c.args.text.now (view c.args.inner.now) in
    let last = c.args.from.now.block + (c.args.block - c.args.from.now.block - 1) / 2 in
    let from = c.args.from.now in
    let found = c.loop-middle.found in
    let over : c.loop-middle.middle ≡ last + 1 = omega (arith, c.loop-middle-test.false, c.loop-middle.auto.middle-end) in
    let block = c.loop-middle.invariant.block in
    reached_as (Middle (ChainAny R) (PastBlock last R (ChainAny R)) (last + 1)) (ChainAny R) from found
    (λ p q has here. any_past R last p q (omega (arith, held_block from p has)) (omega (arith, here, block)))
    (subst (λ n. AreReached (Middle (ChainAny R) (PastBlock last R (ChainAny R)) n) from found) over
    c.loop-middle.invariant.reached)

pub by_repeat-returns-in-None-clause-exact : goal.by_repeat-returns-in-None-clause-exact
by_repeat-returns-in-None-clause-exact t c =
    subst (λ most. AreReached (Spans c.args.text.now (repeat (view c.args.inner.now) c.args.least most))
    c.args.from.now c.by_at_least.result) (sym c.in-None.is) c.by_at_least.ensures.exact

pub by_repeat-returns-in-Some-2-clause-exact : goal.by_repeat-returns-in-Some-2-clause-exact
by_repeat-returns-in-Some-2-clause-exact t c =
    let s = c.args.text.now in
    let inner = view c.args.inner.now in
    subst (λ most. AreReached (Spans s (repeat inner c.args.least most)) c.args.from.now c.by_members.result)
    (sym c.in-Some-2.is)
    (reached_as (ChainBetween (Spans s inner) c.args.least c.in-Some-2.most)
    (Spans s (repeat inner c.args.least (Some c.in-Some-2.most))) c.args.from.now c.by_members.result
    (λ p q has here. repeat_between s inner c.requires.no_refs c.args.least c.in-Some-2.most p q (c.requires.inside p has))
    c.by_members.ensures.exact)

-- PARTS

pub through-returns-then-parts-eq1-clause-exact : goal.through-returns-then-parts-eq1-clause-exact
through-returns-then-parts-eq1-clause-exact t c =
    let s = c.args.text.now in
    let items = c.args.parts.now in
    let one = c.index-parts-0.result in
    reached_as (Spans s (view one)) (SpanAll s (map view items)) c.args.from.now c.image.result
    (λ p q has here. all_alone s items one (omega (arith, c.if-parts-eq1.true)) c.index-parts-0.is p q)
    c.image.ensures.exact

pub through-loop-middle-init : goal.through-loop-middle-init
through-loop-middle-init t c =
    let s = c.args.text.now in
    let first = map view c.split_at.result.0.now in
    let rest = map view c.split_at.result.1.now in
    record {
      block = c.none-found.ensures.block;
      reached = middle_first (SpanAll s first) (SpanAll s rest) c.args.from.now c.none-found.result
          (all_part s first) c.none-found.ensures.held;
    }

pub through-through-between-requires : goal.through-through-between-requires
through-through-between-requires t c =
    let items = c.args.parts.now in
    let first = c.split_at.result.0.now in
    let rest = c.split_at.result.1.now in
    let whole = halves items first rest (length items / 2) c.split_at.ensures.front c.split_at.ensures.back in
    let some : 1 ≤ length items = search rules in
    let light = weight_halves (length c.args.text.now) (map view first) (map view rest) (map view items) whole
    (omega (arith, length-map first view, c.split_at.ensures.front_len, c.if-parts-eq1.false, some))
    (omega (arith, length-map rest view, c.split_at.ensures.back_len, c.if-parts-eq1.false, some)) in (
      omega (arith, c.decreases, light.0),
      (
        (refs_append (map view first) (map view rest) (ap (λ (ts : List Tree). any_has_refs (trees_of ts)) whole
            ∙ c.requires.no_refs)).0,
        (omega arith, (omega (arith, c.requires.within), c.requires.inside)),
      ),
    )

pub through-through-there-requires : goal.through-through-there-requires
through-through-there-requires t c =
    let s = c.args.text.now in
    let items = c.args.parts.now in
    let first = c.split_at.result.0.now in
    let rest = c.split_at.result.1.now in
    let between = c.through-between in
    let whole = halves items first rest (length items / 2) c.split_at.ensures.front c.split_at.ensures.back in
    let some : 1 ≤ length items = search rules in
    let light = weight_halves (length s) (map view first) (map view rest) (map view items) whole
    (omega (arith, length-map first view, c.split_at.ensures.front_len, c.if-parts-eq1.false, some))
    (omega (arith, length-map rest view, c.split_at.ensures.back_len, c.if-parts-eq1.false, some)) in (
      omega (arith, c.decreases, light.1),
      (
        (refs_append (map view first) (map view rest) (ap (λ (ts : List Tree). any_has_refs (trees_of ts)) whole
            ∙ c.requires.no_refs)).1,
        (
          omega (arith, between.ensures.block),
          (
            c.requires.within,
            reached_inside s _ c.args.from.now between.result
                (λ p q has h. all_within s (map view first) p q h) between.ensures.exact,
          ),
        ),
      ),
    )

pub through-loop-middle-preserved : goal.through-loop-middle-preserved
through-loop-middle-preserved t c =
    let s = c.args.text.now in
    let known = c.loop-middle.invariant in
    let between = c.through-between in
    let there = c.through-there in
    record {
      block = c.add.ensures.block ∙ known.block;
      reached = middle_more (SpanAll s (map view c.split_at.result.0.now)) (SpanAll s (map view c.split_at.result.1.now))
          c.args.from.now c.loop-middle.found between.result there.result c.add.new.self c.loop-middle.middle
          between.ensures.block (sym c.add.ensures.block)
          (there.ensures.block ∙ sym known.block ∙ sym c.add.ensures.block) c.add.ensures.held known.reached
          between.ensures.exact there.ensures.exact;
    }

pub through-returns-clause-exact : goal.through-returns-clause-exact
through-returns-clause-exact t c =
    let s = c.args.text.now in
    let from = c.args.from.now in
    let items = c.args.parts.now in
    let first = map view c.split_at.result.0.now in
    let rest = map view c.split_at.result.1.now in
    let found = c.loop-middle.found in
    subst (λ (ts : List Tree). AreReached (SpanAll s ts) from found)
    (halves items c.split_at.result.0.now c.split_at.result.1.now (length items / 2) c.split_at.ensures.front
    c.split_at.ensures.back)
    (reached_as _ (SpanAll s (first ++ rest)) from found (λ p q has here. all_append s first rest p q)
    (middle_last (SpanAll s first) (SpanAll s rest) from found c.loop-middle.middle (all_part s rest)
    (omega (arith, c.loop-middle.invariant.block, c.loop-middle-test.false)) c.loop-middle.invariant.reached))

-- THE WHOLE

pub image-returns-in-Cat-clause-exact : goal.image-returns-in-Cat-clause-exact
image-returns-in-Cat-clause-exact t c =
    let s = c.args.text.now in
    let from = c.args.from.now in
    let ts = map view c.as_slice.result.now in
    let tree : cat (trees_of ts) ≡ view c.args.ere.now =
    ap (λ (xs : List Ere). cat (trees_of (map view xs))) c.as_slice.ensures
    ∙ sym (ap view c.in-Cat.is ∙ view_Cat c.in-Cat.parts ∙ ap cat (trees_in_map c.in-Cat.parts)) in
    let refs : any_has_refs (trees_of ts) ≡ false = ap has_refs tree ∙ c.requires.no_refs in
    subst (λ (t : Tree). AreReached (Spans s t) from c.through.result) tree
    (reached_as (SpanAll s ts) (Spans s (cat (trees_of ts))) from c.through.result
    (λ p q has here. turned (spans_cat s ts p q refs)) c.through.ensures.exact)

pub image-returns-in-Alt-clause-exact : goal.image-returns-in-Alt-clause-exact
image-returns-in-Alt-clause-exact t c =
    let s = c.args.text.now in
    let from = c.args.from.now in
    let ts = map view c.as_slice-in-Alt.result.now in
    let tree : alt (trees_of ts) ≡ view c.args.ere.now =
    ap (λ (xs : List Ere). alt (trees_of (map view xs))) c.as_slice-in-Alt.ensures
    ∙ sym (ap view c.in-Alt.is ∙ view_Alt c.in-Alt.choices ∙ ap alt (trees_in_map c.in-Alt.choices)) in
    subst (λ (t : Tree). AreReached (Spans s t) from c.by_one.result) tree
    (reached_as (SpanOne s ts) (Spans s (alt (trees_of ts))) from c.by_one.result
    (λ p q has here. turned (spans_alt s ts p q)) c.by_one.ensures.exact)

pub image-returns-in-Group-clause-exact : goal.image-returns-in-Group-clause-exact
image-returns-in-Group-clause-exact t c =
    let s = c.args.text.now in
    let from = c.args.from.now in
    let inner = view c.deref.result.now in
    let tree : group c.in-Group.number inner ≡ view c.args.ere.now =
    ap (λ e. group c.in-Group.number (view e)) c.deref.ensures
    ∙ sym (ap view c.in-Group.is ∙ view_Group c.in-Group.number c.in-Group.inner) in
    subst (λ (t : Tree). AreReached (Spans s t) from c.image.result) tree
    (reached_as (Spans s inner) (Spans s (group c.in-Group.number inner)) from c.image.result
    (λ p q has here. turned (spans_group s c.in-Group.number inner p q)) c.image.ensures.exact)

pub image-returns-in-Repeat-clause-exact : goal.image-returns-in-Repeat-clause-exact
image-returns-in-Repeat-clause-exact t c =
    subst (λ (t : Tree). AreReached (Spans c.args.text.now t) c.args.from.now c.by_repeat.result)
    (ap (λ e. repeat (view e) c.in-Repeat.least c.in-Repeat.most) c.deref-in-Repeat.ensures
    ∙ sym (ap view c.in-Repeat.is ∙ view_Repeat c.in-Repeat.inner c.in-Repeat.least c.in-Repeat.most))
    c.by_repeat.ensures.exact
