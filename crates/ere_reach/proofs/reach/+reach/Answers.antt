-- The functions that go through an expression: parts, alternatives, members of a repeat, groups, and the whole.
-- Each loop says what is found so far and what is still to come; each step is a lemma on rows to which something leads.
-- The hard ones are the rounds of `reach_by_members`: what the rows that weren't gone on from lead to is joined to all.
use Rattle.std.proofs.Common.{◌≡◌, ◌+◌, ◌-◌, List, length, map, sym, ap, ◌∙◌, subst, get_or, refl, rules, [], ◌∷◌, inl, inr, arith}
use Rattle.std.proofs.lemmas.Bool.{eqb-true}
use Rattle.std.proofs.lemmas.Result.{IfOk-weaker}
use Rattle.ere_places.proofs.TreesLemmas.{trees_in_map}
use Rattle.ere_tree.proofs.ViewLemmas.{view_Cat}
use Rattle.ere_tree.specs.Tree.{Tree, cat, trees_of, group, repeat}
use Rattle.ere_tree.specs.View.{view}
use Rattle.ere_tree.specs.declared.ere.Ere.{Ere}
use Rattle.ere_reach.specs.Leads.{LeadsOver, LeadsThrough, Does, DoesAll, LeadsFurther, DoesFurther, KeepsRows}
use Rattle.ere_reach.specs.Live.{reads}
use Rattle.ere_reach.proofs.BeforeLemmas.{over_inside}
use Rattle.ere_reach.proofs.EnteredLemmas.{entered_first, first_inside, rounds_more, rounds_over}
use Rattle.ere_reach.proofs.LiveLemmas.{behind_part}
use Rattle.ere_reach.proofs.LeadsLemmas.{leads_same, no_state, same_itself, same_joined}
use Rattle.ere_reach.proofs.ThroughLemmas.{cat_leads, rest_more, rest_last, one_more, one_last, view_at}
use Rattle.std.specs.List.{Contains}
use Rattle.ere_reach.proofs.FrameLemmas.{framed_leads, leads_from}
use Rattle.ere_reach.proofs.GroupLemmas.{group_more, group_over}
use Rattle.ere_reach.proofs.ReadLemmas.{all_of_group, kept_inside, kept_leads}
use Rattle.ere_reach.proofs.StepLemmas.{gone_first, gone_last, one_inside, passes_none, place_inside}
use Rattle.ere_reach.proofs.ToldLemmas.{more_hold, still_hold, told_holds, told_leads}
use Rattle.ere_reach.specs.Memo.{LeadsFrom}
use Rattle.ere_reach.specs.Rows.{AreSame}
use Rattle.ere_reach.proofs.TakenLemmas.{Taken, TakenIn, gone_same, taken_in_all, taken_in_more, taken_in_none}
use Rattle.ere_reach.specs.declared.held.Held.{Held}
use Rattle.ere_reach.specs.Rows.{IsPut}
use Rattle.ere_reach.proofs.MembersLemmas.{further_last, further_more, further_whole, round_first, round_last}
use Rattle.ere_reach.proofs.RepeatLemmas.{least_none, least_end, least_read, least_step}
use Rattle.ere_reach.proofs.reach.+reach.Goals.{reach_by_further-then-has_byte-via-then-has_byte, reach_by_further-then-has_byte-via-else-has_byte+then-not-sets_one}
use Rattle.ere_reach.proofs.reach.+reach.Goals as goal

-- PARTS

pub reach_through-returns-then-is_empty-clause-leads : goal.reach_through-returns-then-is_empty-clause-leads
reach_through-returns-then-is_empty-clause-leads t c =
    let site = c.args.site in
    let items = c.args.parts.now in
    let rows = c.args.rows.now in
    let same = same_joined c.new-same.result rows c.join.new.self
    (no_state c.new-same.result c.new-same.ensures.none) c.in_ok-join.ensures.join in
    rest_last site items 0 c.args.live.now rows c.join.new.self (trees_of (map view items))
    (let none = eqb-true (length items) 0 (sym c.is_empty.ensures ∙ c.if-is_empty.true) in omega (arith, none)) c.requires.fits
    (λ h p has. c.requires.inside h p ((same h p).0 has))
    (λ found leads before has. leads_same site (DoesAll c.args.site.text.now (trees_of (map view items))) before
    c.args.live.now c.join.new.self rows found found (λ h p. ((same h p).1, (same h p).0)) (same_itself found)
    (leads before has))

pub reach_through-loop-index-init : goal.reach_through-loop-index-init
reach_through-loop-index-init t c =
    let site = c.args.site in
    let items = c.args.parts.now in
    let part = c.index-parts-0.result in
    let rows = c.args.rows.now in
    let behind = c.live_of-behind.result.now in
    let now = c.in_ok-now.now in
    let others = c.split_at.result.1.now in
    let lives = c.in_ok-lives.lives.items in
    record {
      inside = over_inside site (view part) behind rows now c.in_ok-now.ensures.leads;
      rest = rest_more site items 0 part c.args.live.now behind rows rows now (trees_of (map view items)) (omega arith)
          c.index-parts-0.is
          (behind_part items others c.args.live.now lives c.as_slice.result.now 0 (length items - 1) behind
          c.split_at.ensures.back c.in_ok-lives.ensures.read c.in_ok-lives.ensures.count c.as_slice.ensures.value
          (omega arith) (c.live_of-behind.ensures.none, c.live_of-behind.ensures.some)) c.in_ok-now.ensures.leads (λ found leads. leads);
      memo = c.in_ok-now.ensures.memo;
    }

pub reach_through-loop-index-preserved : goal.reach_through-loop-index-preserved
reach_through-loop-index-preserved t c =
    let site = c.args.site in
    let items = c.args.parts.now in
    let k = c.loop-index.index in
    let part = c.index-parts-index.result in
    let behind = c.live_of-behind-in-loop-index.result.now in
    let now = c.loop-index.now in
    let next = c.in_ok-next.next in
    let others = c.split_at.result.1.now in
    let lives = c.in_ok-lives.lives.items in
    record {
      inside = over_inside site (view part) behind now next c.in_ok-next.ensures.leads;
      rest = rest_more site items k part c.args.live.now behind c.args.rows.now now next (trees_of (map view items))
          c.loop-index-test.true c.index-parts-index.is
          (behind_part items others c.args.live.now lives c.as_slice-in-loop-index.result.now k (length items - 1 - k)
          behind c.split_at.ensures.back c.in_ok-lives.ensures.read c.in_ok-lives.ensures.count
          c.as_slice-in-loop-index.ensures.value (omega arith)
          (c.live_of-behind-in-loop-index.ensures.none, c.live_of-behind-in-loop-index.ensures.some)) c.in_ok-next.ensures.leads
          c.loop-index.invariant.rest;
      memo = c.in_ok-next.ensures.memo;
    }

pub reach_through-returns-clause-leads : goal.reach_through-returns-clause-leads
reach_through-returns-clause-leads t c =
    rest_last _ c.args.parts.now c.loop-index.index _ _ _ (trees_of (map view c.args.parts.now)) c.loop-index-test.false
    c.requires.fits c.loop-index.invariant.inside c.loop-index.invariant.rest

-- ALTERNATIVES

pub reach_by_one-loop-one-preserved : goal.reach_by_one-loop-one-preserved
reach_by_one-loop-one-preserved t c =
    let items = c.args.choices.now in
    let k = c.loop-one.one-index in
    let one = c.one-item.result in
    record {
      all = one_more _ _ _ _ _ _ _ _ _ (view_at items k one c.loop-one-test.true c.one-item.is) c.loop-one.invariant.all
          c.in_ok-found.ensures.leads c.in_ok-absorb.ensures.join;
      memo = c.in_ok-found.ensures.memo;
    }

pub reach_by_one-returns-clause-leads : goal.reach_by_one-returns-clause-leads
reach_by_one-returns-clause-leads t c =
    one_last c.args.site c.args.choices.now c.loop-one.one-index c.args.live.now c.args.rows.now c.loop-one.all
    c.loop-one-test.false c.loop-one.invariant.all

-- THE WHOLE

pub reach_by_kind-returns-in-Cat-clause-leads : goal.reach_by_kind-returns-in-Cat-clause-leads
reach_by_kind-returns-in-Cat-clause-leads t c =
    let site = c.args.site in
    let live = c.args.live.now in
    let rows = c.args.rows.now in
    let ts = trees_of (map view c.as_slice.result.now) in
    let tree : cat ts ≡ view c.args.ere.now =
    ap (λ (xs : List Ere). cat (trees_of (map view xs))) c.as_slice.ensures
    ∙ sym (ap view c.in-Cat.is ∙ view_Cat c.in-Cat.parts ∙ ap cat (trees_in_map c.in-Cat.parts)) in
    IfOk-weaker c.reach_through.result (LeadsThrough site ts live rows) (LeadsOver site (view c.args.ere.now) live rows)
    (λ found h. subst (λ (t : Tree). LeadsOver site t live rows found) tree (cat_leads site ts live rows found h))
    c.reach_through.ensures.leads

-- A GROUP

pub reach_by_group-returns-then-not-contains-clause-leads : goal.reach_by_group-returns-then-not-contains-clause-leads
reach_by_group-returns-then-not-contains-clause-leads t c =
    let a = c.args in
    let unread : Contains a.live.now a.group.number → ⊥ = λ has.
    passes_none a.live.now a.group.number a.group.number (sym c.contains.ensures.value ∙ c.if-not-contains.true) has refl in
    IfOk-weaker c.reach.result (LeadsOver a.site (view a.group.inner.now) a.live.now a.rows.now)
    (LeadsOver a.site (group a.group.number (view a.group.inner.now)) a.live.now a.rows.now)
    (λ found leads. group_over a.site a.group.number (view a.group.inner.now) a.live.now a.rows.now found unread leads)
    c.reach.ensures.leads

pub reach_by_group-reach_by_free_group-requires : goal.reach_by_group-reach_by_free_group-requires
reach_by_group-reach_by_free_group-requires t c =
    let free = c.refers_or_sets.ensures in
    let unset = rw c.as_slice-3.ensures.value at (free.sets c.if-not-refers_or_sets.true) in
    record {
      fits = c.requires.fits;
      inside = kept_inside c.args.site _ c.args.rows.now c.in_ok-starts.starts c.in_ok-starts.ensures c.requires.inside;
      free = record {
        refers = free.refers c.if-not-refers_or_sets.true;
        sets = (c.in_ok-others.others.items, c.in_ok-others.ensures, unset);
      };
      memo = c.requires.memo;
    }

pub reach_by_group-returns-then-not-refers_or_sets-clause-leads : goal.reach_by_group-returns-then-not-refers_or_sets-clause-leads
reach_by_group-returns-then-not-refers_or_sets-clause-leads t c =
    let a = c.args in
    let t = view a.group.inner.now in
    let tree = group a.group.number t in
    kept_leads a.site (Does a.site.text.now tree) (reads tree) a.live.now c.in_ok-read.read.items a.rows.now
    c.in_ok-starts.starts c.in_ok-found.found
    (all_of_group a.group.number t a.live.now c.in_ok-others.others.items c.in_ok-read.read.items c.in_ok-others.ensures
    (rw c.as_slice.ensures.value at c.in_ok-read.ensures))
    (rw c.as_slice-2.ensures.value at c.in_ok-starts.ensures) c.in_ok-found.ensures.leads

pub reach_by_group-reach_by_bound_group-requires : goal.reach_by_group-reach_by_bound_group-requires
reach_by_group-reach_by_bound_group-requires t c =
    let it = kept_inside c.args.site _ c.args.rows.now c.in_ok-starts.starts c.in_ok-starts.ensures c.requires.inside in
    (search rules, (c.requires.fits, (it, c.requires.memo)))

pub reach_by_group-returns-clause-leads : goal.reach_by_group-returns-clause-leads
reach_by_group-returns-clause-leads t c =
    let a = c.args in
    let t = view a.group.inner.now in
    let tree = group a.group.number t in
    kept_leads a.site (Does a.site.text.now tree) (reads tree) a.live.now c.in_ok-read.read.items a.rows.now
    c.in_ok-starts.starts c.in_ok-found-2.found
    (all_of_group a.group.number t a.live.now c.in_ok-others.others.items c.in_ok-read.read.items c.in_ok-others.ensures
    (rw c.as_slice.ensures.value at c.in_ok-read.ensures))
    (rw c.as_slice-2.ensures.value at c.in_ok-starts.ensures) c.in_ok-found-2.ensures.leads

-- A START

pub told_from-returns-in-Some-clause-leads : goal.told_from-returns-in-Some-clause-leads
told_from-returns-in-Some-clause-leads t c =
    told_leads c.args.closing.site (view c.args.closing.group.inner.now) (record { from = c.args.closing.from; held = c.args.held; live = c.args.live }) c.in-Some.told c.in-Some.ensures.of
    (c.requires.memo.told c.in-Some.told c.in-Some.ensures.there)

pub told_from-returns-in-Some-clause-holds : goal.told_from-returns-in-Some-clause-holds
told_from-returns-in-Some-clause-holds t c = c.requires.memo.told c.in-Some.told c.in-Some.ensures.there

pub told_from-returns-in-Some-clause-memo : goal.told_from-returns-in-Some-clause-memo
told_from-returns-in-Some-clause-memo t c =
    still_hold c.args.closing.site c.args.memo.now c.take.new.self c.take.ensures.kept c.take.ensures.asked c.requires.memo

pub told_from-reach-requires : goal.told_from-reach-requires
told_from-reach-requires t c =
    let it = one_inside c.args.closing.site c.args.held.now c.args.closing.from c.new-one.result c.put.new.self
    c.new-one.ensures.none c.in_ok-put.ensures.put c.requires.inside in
    (search rules, (c.requires.fits, (it, still_hold c.args.closing.site c.args.memo.now c.take.new.self c.take.ensures.kept c.take.ensures.asked c.requires.memo)))

pub told_from-returns-clause-leads : goal.told_from-returns-clause-leads
told_from-returns-clause-leads t c =
    let a = c.args in
    subst (LeadsFrom a.closing.site (view a.closing.group.inner.now) a.live.now a.held.now a.closing.from)
    (sym c.in_ok-told.ensures.rows)
    (leads_from a.closing.site (view a.closing.group.inner.now) a.live.now a.held.now a.closing.from c.new-one.result
    c.put.new.self c.in_ok-rows.rows c.new-one.ensures.none c.in_ok-put.ensures.put c.in_ok-rows.ensures.leads)

pub told_from-returns-clause-holds : goal.told_from-returns-clause-holds
told_from-returns-clause-holds t c =
    let a = c.args in
    told_holds a.closing.site (view a.closing.group.inner.now) (record { from = a.closing.from; held = a.held; live = a.live }) c.in_ok-told.told c.in_ok-told.ensures.of
    (subst (LeadsFrom a.closing.site (view a.closing.group.inner.now) a.live.now a.held.now a.closing.from)
    (sym c.in_ok-told.ensures.rows)
    (leads_from a.closing.site (view a.closing.group.inner.now) a.live.now a.held.now a.closing.from c.new-one.result
    c.put.new.self c.in_ok-rows.rows c.new-one.ensures.none c.in_ok-put.ensures.put c.in_ok-rows.ensures.leads))

-- A GROUP WITH REFERENCES OR OTHER GROUPS IN IT

pub reach_by_bound_group-loop-row-init : goal.reach_by_bound_group-loop-row-init
reach_by_bound_group-loop-row-init t c =
    let tree = group c.args.group.number (view c.args.group.inner.now) in
    record {
      found = gone_first c.args.site (Does c.args.site.text.now tree) (reads tree) c.args.live.now
          c.deref-row-items.result.now c.new-found.result c.new-found.ensures.none;
      memo = c.requires.memo;
    }

pub reach_by_bound_group-loop-from-init : goal.reach_by_bound_group-loop-from-init
reach_by_bound_group-loop-from-init t c =
    record {
      found = gone_same _ _ _ _ _ _
          (taken_in_none c.deref-row-items.result.now c.loop-row.row-index c.as_slice-before.result.now
          c.deref-from-items.result.now) c.loop-row.invariant.found;
      memo = c.loop-row.invariant.memo;
    }

pub reach_by_bound_group-told_from-requires : goal.reach_by_bound_group-told_from-requires
reach_by_bound_group-told_from-requires t c =
    let it = place_inside c.args.site c.args.rows.now c.deref-row-items.result.now c.loop-row.row-index c.row-item.result
    c.deref-from-items.result.now c.loop-from.from-index c.deref-row-items.ensures.value c.requires.inside
    c.loop-row-test.true c.row-item.is c.deref-from-items.ensures.value c.loop-from-test.true in
    (search rules, (c.requires.fits, (it, c.loop-from.invariant.memo)))

pub reach_by_bound_group-loop-from-preserved : goal.reach_by_bound_group-loop-from-preserved
reach_by_bound_group-loop-from-preserved t c =
    let a = c.args in
    let inner = view a.group.inner.now in
    let rows = c.deref-row-items.result.now in
    let k = c.loop-row.row-index in
    let g = c.as_slice-before.result.now in
    let places = c.deref-from-items.result.now in
    let j = c.loop-from.from-index in
    let p = get_or places j 0 in
    let others = c.in_ok-rest.rest.items in
    let own = c.in_ok-own.own.items in
    let read = c.in_ok-read.read.items in
    let held = c.in_ok-held.held.items in
    let told = c.in_ok-told.told in
    let puts = rw c.as_slice-in-loop-row-2.ensures.value at (rw c.as_slice-in-loop-row-3.ensures.value at
    c.in_ok-put_framed.ensures) in
    record {
      found = group_more a.site a.group.number inner a.live.now others c.in_ok-rest.ensures g p puts.0 c.loop-from.found
          c.put_framed.new.found (TakenIn rows k g places j) (TakenIn rows k g places (j + 1))
          (place_inside a.site a.rows.now rows k c.row-item.result places j c.deref-row-items.ensures.value
          c.requires.inside c.loop-row-test.true c.row-item.is c.deref-from-items.ensures.value c.loop-from-test.true).0
          (framed_leads a.site inner own others read g held p told.rows puts.0
          (rw c.as_slice.ensures.value at c.in_ok-own.ensures) (rw c.as_slice-2.ensures.value at c.in_ok-read.ensures)
          (rw c.as_slice-in-loop-row.ensures.value at c.in_ok-held.ensures)
          (rw c.as_slice-in-loop-from.ensures.value at (rw c.as_slice-in-loop-from-2.ensures.value at
          c.in_ok-told.ensures.leads)) puts.1) puts.2
          (taken_in_more rows k g places j p c.loop-from-test.true refl) c.loop-from.invariant.found;
      memo = more_hold c.args.site c.told_from.new.memo c.in_ok-told.told c.put.new.self c.in_ok-put.ensures.kept c.put.ensures.asked
          c.in_ok-told.ensures.memo c.in_ok-told.ensures.holds;
    }

pub reach_by_bound_group-loop-row-preserved : goal.reach_by_bound_group-loop-row-preserved
reach_by_bound_group-loop-row-preserved t c =
    let rows = c.deref-row-items.result.now in
    let k = c.loop-row.row-index in
    let places = c.deref-from-items.result.now in
    let j = c.loop-from.from-index in
    record {
      found = gone_same _ _ _ _ _ _
          (subst (λ (g : List Held). AreSame (Taken rows (k + 1)) (TakenIn rows k g places j))
          (sym c.as_slice-before.ensures.value)
          (taken_in_all rows k c.row-item.result places j c.loop-row-test.true c.row-item.is
          c.deref-from-items.ensures.value c.loop-from-test.false)) c.loop-from.invariant.found;
      memo = c.loop-from.invariant.memo;
    }

pub reach_by_bound_group-returns-clause-leads : goal.reach_by_bound_group-returns-clause-leads
reach_by_bound_group-returns-clause-leads t c =
    let a = c.args in
    let tree = group a.group.number (view a.group.inner.now) in
    gone_last a.site (Does a.site.text.now tree) (reads tree) a.live.now a.rows.now c.loop-row.found
    c.deref-row-items.result.now c.loop-row.row-index c.deref-row-items.ensures.value c.loop-row-test.false
    c.loop-row.invariant.found

-- A MEMBER

pub reach_by_further-returns-then-has_byte-clause-leads : goal.reach_by_further-returns-then-has_byte-clause-leads
reach_by_further-returns-then-has_byte-clause-leads t c =
    let site = c.args.site in
    let inner = view c.args.inner.now in
    IfOk-weaker c.reach.result (LeadsOver site inner c.args.live.now c.args.rows.now) (LeadsFurther site inner c.args.live.now c.args.rows.now)
    (λ found. further_whole site inner c.args.live.now c.args.rows.now found (elim c.then-has_byte.branch [
      | reach_by_further-then-has_byte-via-then-has_byte w ↦ inl (sym c.has_byte.ensures ∙ w.if-has_byte.true)
      | reach_by_further-then-has_byte-via-else-has_byte+then-not-sets_one w ↦
          inr (sym w.sets_one.ensures ∙ w.if-not-sets_one.true)
    ])) c.reach.ensures.leads

pub reach_by_further-loop-row-init : goal.reach_by_further-loop-row-init
reach_by_further-loop-row-init t c =
    let inner = view c.args.inner.now in
    record {
      all = gone_first c.args.site (DoesFurther c.args.site.text.now inner) (reads inner) c.args.live.now
          c.deref-row-items.result.now c.new-all.result c.new-all.ensures.none;
      memo = c.requires.memo;
    }

pub reach_by_further-loop-place-init : goal.reach_by_further-loop-place-init
reach_by_further-loop-place-init t c =
    record {
      all = gone_same _ _ _ _ _ _ (taken_in_none c.deref-row-items.result.now c.loop-row.row-index
          c.row-item.result.held.items c.deref-place-items.result.now) c.loop-row.invariant.all;
      memo = c.loop-row.invariant.memo;
    }

pub reach_by_further-reach-requires-in-loop-place : goal.reach_by_further-reach-requires-in-loop-place
reach_by_further-reach-requires-in-loop-place t c =
    let place = get_or c.deref-place-items.result.now c.loop-place.place-index 0 in
    let lies = place_inside c.args.site c.args.rows.now c.deref-row-items.result.now c.loop-row.row-index
    c.row-item.result c.deref-place-items.result.now c.loop-place.place-index c.deref-row-items.ensures.value
    c.requires.inside c.loop-row-test.true c.row-item.is c.deref-place-items.ensures.value c.loop-place-test.true in
    let inside = one_inside c.args.site c.as_slice.result.now place c.new-one.result c.put.new.self
    c.new-one.ensures.none c.in_ok-put.ensures.put lies in
    (search rules, (c.requires.fits, (inside, c.loop-place.invariant.memo)))

pub reach_by_further-loop-place-preserved : goal.reach_by_further-loop-place-preserved
reach_by_further-loop-place-preserved t c =
    let places = c.deref-place-items.result.now in
    let j = c.loop-place.place-index in
    let held = c.row-item.result.held.items in
    record {
      all = further_more _ _ _ _ _ held (get_or places j 0) c.new-one.result c.put.new.self c.in_ok-found.found
          c.loop-place.all c.put_beyond.new.all c.new-one.ensures.none
          (subst (λ (g : List Held). IsPut c.new-one.result g (get_or places j 0 ∷ []) c.put.new.self)
          c.as_slice.ensures.value c.in_ok-put.ensures.put)
          (taken_in_more c.deref-row-items.result.now c.loop-row.row-index held places j (get_or places j 0)
          c.loop-place-test.true refl) c.in_ok-found.ensures.leads c.in_ok-put_beyond.ensures c.loop-place.invariant.all;
      memo = c.in_ok-found.ensures.memo;
    }

pub reach_by_further-loop-row-preserved : goal.reach_by_further-loop-row-preserved
reach_by_further-loop-row-preserved t c =
    record {
      all = gone_same _ _ _ _ _ _ (taken_in_all c.deref-row-items.result.now c.loop-row.row-index c.row-item.result
          c.deref-place-items.result.now c.loop-place.place-index c.loop-row-test.true c.row-item.is
          c.deref-place-items.ensures.value c.loop-place-test.false) c.loop-place.invariant.all;
      memo = c.loop-place.invariant.memo;
    }

pub reach_by_further-returns-clause-leads : goal.reach_by_further-returns-clause-leads
reach_by_further-returns-clause-leads t c =
    further_last c.args.site (view c.args.inner.now) c.args.live.now c.args.rows.now c.loop-row.all
    c.deref-row-items.result.now c.loop-row.row-index c.deref-row-items.ensures.value c.loop-row-test.false
    c.loop-row.invariant.all

-- MEMBERS

pub reach_by_members-loop-init : goal.reach_by_members-loop-init
reach_by_members-loop-init t c =
    record {
      rounds = record {
        round = round_first _ _ _ _ c.new-all.result _ c.requires.inside c.new-all.ensures.none c.in_ok-join.ensures.join
            c.in_ok-join.ensures.done;
        entry = entered_first _ _ _ _ _ c.new-entered.result c.new-entered.ensures.none;
      };
      memo = c.requires.memo;
    }

pub reach_by_members-returns-then-len-eq0-clause-leads : goal.reach_by_members-returns-then-len-eq0-clause-leads
reach_by_members-returns-then-len-eq0-clause-leads t c =
    rounds_over c.args.site (view c.args.further.inner.now) c.args.live.now c.in_ok-read.read.items c.loop.all c.loop.entered
    c.enter_fresh.new.entered c.in_ok-first.first c.loop.invariant.rounds.entry
    (rw c.as_slice.ensures.value at c.in_ok-first.ensures.enters) c.args.rows.now c.enter_fresh.new.all c.loop.counter
    c.args.further.most c.requires.fits (omega arith) c.in_ok-read.ensures c.requires.read c.loop.invariant.rounds.round
    c.in_ok-first.ensures.same (sym c.len.ensures ∙ c.if-len-eq0.true)

pub reach_by_members-reach_by_further-requires : goal.reach_by_members-reach_by_further-requires
reach_by_members-reach_by_further-requires t c =
    let inside = first_inside c.args.site (view c.args.further.inner.now) c.args.live.now c.in_ok-read.read.items c.loop.all
    c.loop.entered c.enter_fresh.new.entered c.in_ok-first.first c.loop.invariant.rounds.entry
    (rw c.as_slice.ensures.value at c.in_ok-first.ensures.enters) c.loop.invariant.rounds.round.inside in
    (search rules, (c.requires.fits, (inside, c.loop.invariant.memo)))

pub reach_by_members-loop-preserved : goal.reach_by_members-loop-preserved
reach_by_members-loop-preserved t c =
    record {
      rounds = rounds_more c.args.site (view c.args.further.inner.now) c.args.live.now c.in_ok-read.read.items c.loop.all
          c.loop.entered c.enter_fresh.new.entered c.in_ok-first.first c.loop.invariant.rounds.entry
          (rw c.as_slice.ensures.value at c.in_ok-first.ensures.enters) c.args.rows.now
          c.enter_fresh.new.all c.in_ok-next.next c.absorb.new.self c.loop.counter c.in_ok-read.ensures c.requires.read
          c.loop.invariant.rounds.round c.in_ok-first.ensures.same c.in_ok-first.ensures.done c.in_ok-next.ensures.leads
          c.in_ok-absorb.ensures.join c.in_ok-absorb.ensures.done;
      memo = c.in_ok-next.ensures.memo;
    }

pub reach_by_members-returns-clause-leads : goal.reach_by_members-returns-clause-leads
reach_by_members-returns-clause-leads t c =
    round_last _ (view c.args.further.inner.now) _ _ _ c.loop.counter c.args.further.most c.requires.fits (omega arith)
    c.loop.invariant.rounds.round

-- A REPEAT

pub reach_by_repeat-reach_by_members-requires : goal.reach_by_repeat-reach_by_members-requires
reach_by_repeat-reach_by_members-requires t c =
    let read = least_read (view c.args.repeated.inner.now) c.args.live.now _ _ c.as_slice.ensures.value c.in_ok-between.ensures in
    (search rules, (c.requires.fits, (c.requires.inside, (read, c.requires.memo))))

pub reach_by_repeat-returns-then-least-eq0-clause-leads : goal.reach_by_repeat-returns-then-least-eq0-clause-leads
reach_by_repeat-returns-then-least-eq0-clause-leads t c =
    let a = c.args in
    IfOk-weaker c.kept_behind.result (KeepsRows a.site a.live.now c.in_ok-all.all)
    (LeadsOver a.site (repeat (view a.repeated.inner.now) a.repeated.least a.repeated.most) a.live.now a.rows.now)
    (λ found kept. least_end a.site (view a.repeated.inner.now) a.repeated.least a.repeated.most a.live.now _ a.rows.now c.in-Some.most
    c.saturating_sub.result _ 0 a.rows.now c.in_ok-all.all found c.in-Some.ensures c.saturating_sub.ensures
    c.requires.inside c.as_slice.ensures.value c.in_ok-between.ensures (least_none _ _ _ _ _ _ _ c.requires.inside)
    (omega arith) c.in_ok-all.ensures.leads kept) c.kept_behind.ensures

pub reach_by_repeat-loop-init : goal.reach_by_repeat-loop-init
reach_by_repeat-loop-init t c =
    record {
      least = least_step _ _ _ _ _ _ _ _ _ _ _ c.as_slice-2.ensures.value c.in_ok-between.ensures c.in_ok-now.ensures.leads
          (least_none _ _ _ _ _ _ _ c.requires.inside);
      memo = c.in_ok-now.ensures.memo;
    }

pub reach_by_repeat-loop-preserved : goal.reach_by_repeat-loop-preserved
reach_by_repeat-loop-preserved t c =
    record {
      least = least_step _ _ _ _ _ _ _ _ _ _ _ c.as_slice-in-loop.ensures.value c.in_ok-between.ensures c.in_ok-next.ensures.leads
          c.loop.invariant.least;
      memo = c.in_ok-next.ensures.memo;
    }

pub reach_by_repeat-returns-clause-leads : goal.reach_by_repeat-returns-clause-leads
reach_by_repeat-returns-clause-leads t c =
    least_end c.args.site (view c.args.repeated.inner.now) c.args.repeated.least c.args.repeated.most c.args.live.now _ c.args.rows.now
    c.in-Some.most c.saturating_sub.result _ c.loop.counter c.loop.now c.in_ok-all-2.all c.in_ok-found.found
    c.in-Some.ensures c.saturating_sub.ensures c.requires.inside c.as_slice-3.ensures.value c.in_ok-between.ensures
    c.loop.invariant.least (omega arith) c.in_ok-all-2.ensures.leads c.in_ok-found.ensures
