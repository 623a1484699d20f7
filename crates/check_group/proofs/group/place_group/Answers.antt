-- The loop over the members of a group: those before are placed as the definition has it, and the ranges in order are theirs.
-- Each turn places one member among them and binds what its match gives; at want of memory some first bindings were made.
-- The long goal is `loop-index-preserved`.
use Rattle.std.proofs.Common.{◌≡◌, IfOk, None, Ok, length, sym, ◌∙◌, ap, subst, arith, All}
use Rattle.std.proofs.Math.Nat.{le_refl}
use Rattle.check_group.specs.Group.{AreInOrder, EndsBy, group, group_at, lowest, placed}
use Rattle.check_group.specs.Changes.{IsReady}
use Rattle.check_group.specs.Continues.{Continues, LiesIn}
use Rattle.check_group.specs.Matches.{Fits}
use Rattle.check_group.specs.Near.{AreFirstsOf}
use Rattle.check_group.proofs.ContinuesLemmas.{comes_told, continues_part_way, continues_ready, continues_whole, part_way_any}
use Rattle.check_group.proofs.GroupLemmas.{group_goes_on, group_ends_failed, group_ends, reach_lies}
use Rattle.check_group.proofs.OrderLemmas.{order_placed}
use Rattle.check_group.proofs.PlacedLemmas.{ends_placed}
use Rattle.check_group.proofs.ResumeLemmas.{Resumes, begins_well, member_before, resumes_on}
use Rattle.check_group.proofs.group.place_group.Goals as goal

pub loop-index-init : goal.loop-index-init
loop-index-init g c =
    let a = c.args in
    let whole = group_at a.text.now a.place a.vars.now a.checks.now in
    record {
      known = subst (λ slice. AreFirstsOf slice c.in_ok-known.known) c.split_at.ensures.back c.in_ok-known.ensures;
      within = λ k d low. absurd (omega (arith, ap length c.new-ranges.ensures.items, low));
      in_order = subst AreInOrder (sym c.new-ranges.ensures.items) tt;
      reached = (c.requires.here, le_refl (length a.text.now), c.requires.here);
      resumes = λ one none. absurd (omega (arith, none));
      rest = subst (λ ranges. Continues whole
          (group a.text.now a.place a.vars.now ranges (record { from = length a.text.now; to = a.place }) a.checks.now)
          a.vars.now a.vars.now) (sym c.new-ranges.ensures.items) (continues_whole whole a.vars.now);
    }

pub place_member-requires-clause-ready : goal.place_member-requires-clause-ready
place_member-requires-clause-ready g c =
    let l = c.loop-index in
    continues_ready _ _ c.args.vars.now l.vars c.index-checks-index.result l.invariant.rest
    (subst (IsReady c.args.vars.now) (sym c.index-checks-index.is) (c.requires.ready l.index c.index-checks-index.result c.loop-index-test.true))

pub place_member-requires-clause-tried : goal.place_member-requires-clause-tried
place_member-requires-clause-tried g c = (begins_well c.args.text.now c.loop-index.vars c.loop-index.ranges.items c.args.place c.loop-index.behind c.first_try-from.result
    c.args.checks.now c.loop-index.index c.index-checks-index.result c.requires.here c.index-checks-index.is c.first_try-from.ensures
    c.loop-index.invariant.resumes).2

pub place_member-requires-clause-later : goal.place_member-requires-clause-later
place_member-requires-clause-later g c = (begins_well c.args.text.now c.loop-index.vars c.loop-index.ranges.items c.args.place c.loop-index.behind c.first_try-from.result
    c.args.checks.now c.loop-index.index c.index-checks-index.result c.requires.here c.index-checks-index.is c.first_try-from.ensures
    c.loop-index.invariant.resumes).0

pub place_member-requires-clause-here : goal.place_member-requires-clause-here
place_member-requires-clause-here g c = (begins_well c.args.text.now c.loop-index.vars c.loop-index.ranges.items c.args.place c.loop-index.behind c.first_try-from.result
    c.args.checks.now c.loop-index.index c.index-checks-index.result c.requires.here c.index-checks-index.is c.first_try-from.ensures
    c.loop-index.invariant.resumes).1

pub returns-in_err-place_among-in-Ok-clause-part_way : goal.returns-in_err-place_among-in-Ok-clause-part_way
returns-in_err-place_among-in-Ok-clause-part_way g c =
    part_way_any c.from_residual-in_err-place_among-in-Ok.result
    (continues_part_way _ _ c.args.vars.now c.loop-index.vars c.loop-index.invariant.rest)

pub returns-in-Err-clause-value : goal.returns-in-Err-clause-value
returns-in-Err-clause-value g c =
    let a = c.args in
    let l = c.loop-index in
    comes_told _ a.vars.now l.vars c.fault.result _ c.fault.ensures
    (group_ends_failed a.text.now a.place l.vars l.ranges.items l.reached a.checks.now l.index
    (group_at a.text.now a.place a.vars.now a.checks.now) a.vars.now c.index-checks-index.result c.in-Err.kind c.loop-index-test.true
    c.index-checks-index.is (sym c.in-Err.is ∙ c.in_ok-m.ensures.value) l.invariant.rest)

pub loop-index-preserved : goal.loop-index-preserved
loop-index-preserved g c =
    let a = c.args in
    let l = c.loop-index in
    let m = c.in-Ok.m in
    let placed_now = c.in_ok-place_among-in-Ok.ensures.ok in
    let fits : Fits l.vars a.place (length a.text.now) m =
    subst (λ met. IfOk met (Fits l.vars a.place (length a.text.now))) c.in-Ok.is c.in_ok-m.ensures.fits in
    let free : lowest m.span l.ranges.items ≡ None =
    subst (λ met. IfOk met (λ m. lowest m.span l.ranges.items ≡ None)) c.in-Ok.is c.in_ok-m.ensures.free in
    let met : Ok m ≡ placed a.text.now l.vars l.ranges.items c.index-checks-index.result a.place =
    sym c.in-Ok.is ∙ c.in_ok-m.ensures.value in
    record {
      known = l.invariant.known;
      in_order = subst AreInOrder (sym placed_now) (order_placed m.span l.ranges.items l.invariant.in_order free);
      resumes = λ one some.
          subst (λ prev. Resumes a.text.now c.bind.new.vars c.place_among.new.ranges.items a.place prev c.next_try-behind.result)
          (member_before a.checks.now l.index c.index-checks-index.result one c.loop-index-test.true c.index-checks-index.is)
          (resumes_on a.text.now l.vars c.bind.new.vars l.ranges.items c.place_among.new.ranges.items a.place c.index-checks-index.result m
          c.next_try-behind.result c.requires.here l.invariant.in_order l.invariant.within fits.high free met placed_now
          c.next_try-behind.ensures);
      within = subst (All (EndsBy (length a.text.now))) (sym placed_now)
          (ends_placed (length a.text.now) m.span l.ranges.items fits.high l.invariant.within);
      reached = subst (LiesIn a.place (length a.text.now)) (sym c.reach-reached.ensures)
          (reach_lies a.place (length a.text.now) l.reached m.span l.invariant.reached fits.low fits.high);
      rest = group_goes_on a.text.now a.place l.vars l.ranges.items l.reached a.checks.now l.index
          (group_at a.text.now a.place a.vars.now a.checks.now) a.vars.now _ _ _ c.index-checks-index.result m c.loop-index-test.true
          c.index-checks-index.is met c.bind.ensures placed_now c.reach-reached.ensures l.invariant.rest;
    }

pub returns-clause-value : goal.returns-clause-value
returns-clause-value g c =
    let a = c.args in
    group_ends a.text.now a.place c.loop-index.vars c.loop-index.ranges.items c.loop-index.reached a.checks.now
    c.loop-index.index (group_at a.text.now a.place a.vars.now a.checks.now) a.vars.now c.loop-index-test.false
    c.loop-index.invariant.rest

pub returns-in_err-known-clause-part_way : goal.returns-in_err-known-clause-part_way
returns-in_err-known-clause-part_way g c =
    let a = c.args in
    part_way_any c.from_residual.result
    (continues_part_way _ _ a.vars.now a.vars.now
    (continues_whole (group_at a.text.now a.place a.vars.now a.checks.now) a.vars.now))

pub earliest-earliest-requires-clause-known : goal.earliest-earliest-requires-clause-known
earliest-earliest-requires-clause-known g c = c.loop-index.invariant.known
