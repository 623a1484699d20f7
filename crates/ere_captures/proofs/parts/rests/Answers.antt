-- The sets for the last parts, one part more at a time: each has the places from which those parts lead to the end.
-- The loop keeps the last list of places and what each set so far holds.
-- Each step is a lemma of RestsLemmas; the hard one is `loop-count-preserved`.
use Rattle.std.proofs.Common.{◌≡◌, ℕ, ◌+◌, ◌-◌, ◌<◌, List, [], ◌∷◌, ◌++◌, length, map, drop, sym, ap, ◌∙◌, subst, arith}
use Rattle.std.specs.List.{Contains}
use Rattle.std.proofs.lemmas.List.{length-map, length-append}
use Rattle.ere_tree.specs.Tree.{Tree}
use Rattle.ere_tree.specs.View.{view}
use Rattle.ere_places.specs.declared.seen.Seen.{Seen}
use Rattle.ere_places.specs.declared.window.Direction.TheVariants.{Back}
use Rattle.ere_places.specs.Places.{IsInside, LeadsInside, AreReached}
use Rattle.ere_places.proofs.ReachLemmas.{reached_inside, view_no_refs, views_from, then_both, all_each}
use Rattle.ere_captures.specs.Walk.{LeadOn}
use Rattle.ere_captures.proofs.GreatestLemmas.{inside_beyond, only_one}
use Rattle.ere_captures.proofs.RestsLemmas.{AreRest, EachLeads, rest_first, rest_more, each_first, each_push}
use Rattle.std.proofs.lemmas.List.{drop-map}
use Rattle.ere_captures.proofs.parts.rests.Goals as goal

pub image-requires-clause-no_refs : goal.image-requires-clause-no_refs
image-requires-clause-no_refs c =
    view_no_refs c.args.parts.now (length c.args.parts.now - 1 - c.loop-count.count) c.index-parts-parts.result
    (omega (arith, c.loop-count-test.true)) c.index-parts-parts.is c.requires.no_refs

pub of-requires-in-loop-count : goal.of-requires-in-loop-count
of-requires-in-loop-count c =
    let s = c.args.text.now in
    let t = view c.index-parts-parts.result in
    let from = c.as_slice-in-loop-count.result.now in
    let places = c.as_slice-in-loop-count-2.result.now in
    inside_beyond c.args.from c.args.to Back places
    (reached_inside s t (record { low = c.args.from; high = c.args.to; direction = Back }) from places
    (subst (AreReached (LeadsInside s t (record { low = c.args.from; high = c.args.to; direction = Back })) from)
    (sym c.as_slice-in-loop-count-2.ensures.value) c.in_ok-now-2.ensures))

pub loop-count-init : goal.loop-count-init
loop-count-init c =
    let s = c.args.text.now in
    let ts = map view c.args.parts.now in
    let n = length c.args.parts.now in
    let behind = λ (m : ℕ). drop (n - m) ts in
    let from = c.args.from in
    let to = c.args.to in
    let seen = c.in_ok-of.field-0 in
    let items : c.in_ok-now.now.items ≡ to ∷ [] = c.in_ok-now.ensures.items in
    let all : c.push.new.self.items ≡ seen ∷ [] =
    c.in_ok-push.ensures.items ∙ ap (λ (xs : List Seen). xs ++ seen ∷ []) c.in_ok-all.ensures.items in
    let first : AreRest s (behind 0) from to (to ∷ []) =
    rest_first s ts (n - 0) from to (omega (arith, length-map c.args.parts.now view)) c.requires.order
    c.requires.within in
    let rest : AreRest s (behind 0) from to c.in_ok-now.now.items =
    subst (AreRest s (behind 0) from to) (sym items) first in
    let held : LeadOn s (behind 0) from to seen =
    λ q. then_both (c.in_ok-of.ensures q)
    (subst (λ (xs : List ℕ). AreRest s (behind 0) from to xs) (sym c.as_slice.ensures.value) rest q) in
    record {
      long = ap length all;
      inside = all_each (IsInside (record { low = from; high = to; direction = Back })) c.in_ok-now.now.items
          (λ q has. let same = only_one to q (subst (λ (xs : List ℕ). Contains xs q) items has) in
          (omega (arith, same, c.requires.order), omega (arith, same)));
      now = rest;
      each = subst (EachLeads s behind from to 0) (sym all) (each_first s behind from to seen held);
    }

pub loop-count-preserved : goal.loop-count-preserved
loop-count-preserved c =
    let s = c.args.text.now in
    let items = c.args.parts.now in
    let ts = map view items in
    let n = length items in
    let k = c.loop-count.count in
    let behind = λ (m : ℕ). drop (n - m) ts in
    let from = c.args.from in
    let to = c.args.to in
    let part = c.index-parts-parts.result in
    let old = c.loop-count.now.items in
    let new = c.in_ok-now-2.now.items in
    let seen = c.in_ok-of-2.field-0 in
    let i = c.loop-count.invariant in
    let low : n - 1 - k < n = omega (arith, c.loop-count-test.true) in
    let next : n - 1 - k + 1 ≡ n - k = omega (arith, c.loop-count-test.true) in
    let here : n - (k + 1) ≡ n - 1 - k = omega arith in
    let views : behind (k + 1) ≡ view part ∷ behind k =
    ap (λ m. drop m ts) here ∙ drop-map view (n - 1 - k) items
    ∙ views_from items (n - 1 - k) part low c.index-parts-parts.is
    ∙ ap (λ (us : List Tree). view part ∷ us) (sym (drop-map view (n - 1 - k + 1) items) ∙ ap (λ m. drop m ts) next) in
    let reached : AreReached (LeadsInside s (view part) (record { low = from; high = to; direction = Back })) old new =
    subst (λ (xs : List ℕ). AreReached (LeadsInside s (view part)
    (record { low = from; high = to; direction = Back })) xs new) c.as_slice-in-loop-count.ensures.value
    c.in_ok-now-2.ensures in
    let rest : AreRest s (behind (k + 1)) from to new =
    rest_more s (view part) (behind k) (behind (k + 1)) from to old new views i.now reached in
    let held : LeadOn s (behind (k + 1)) from to seen =
    λ q. then_both (c.in_ok-of-2.ensures q)
    (subst (λ (xs : List ℕ). AreRest s (behind (k + 1)) from to xs) (sym c.as_slice-in-loop-count-2.ensures.value)
    rest q) in
    record {
      long = ap length c.in_ok-push-2.ensures.items
          ∙ omega (arith, i.long, length-append c.loop-count.all.items (seen ∷ []));
      inside = reached_inside s (view part) (record { low = from; high = to; direction = Back }) old new reached;
      now = rest;
      each = subst (EachLeads s behind from to (k + 1)) (sym c.in_ok-push-2.ensures.items)
          (each_push s behind from to k c.loop-count.all.items seen i.long i.each held);
    }

pub returns : goal.returns
returns c =
    let i = c.loop-count.invariant in
    let over : c.loop-count.count ≡ length c.args.parts.now = omega arith in
    record {
      long = omega (arith, i.long, over, c.loop-count.all.ok);
      each = λ m one fits low is. i.each m one (omega (arith, over, fits)) is;
    }
