-- References: each place of each row at which the text stands that its group holds goes on behind it.
-- The loops say what is found from the rows and places before, as `TakenLemmas` has it for any step.
-- The hard case is a row that tells nothing of the group: no captures that it covers lead on.
use Rattle.std.proofs.Common.{◌≡◌, ◌+◌, Some, [], ◌∷◌, get_or, refl, sym, ◌∙◌, subst}
use Rattle.ere_tree.specs.Tree.{back}
use Rattle.ere_reach.specs.Held.{part_in}
use Rattle.ere_reach.specs.Leads.{Does}
use Rattle.ere_reach.specs.Live.{reads}
use Rattle.ere_reach.specs.Rows.{IsPut}
use Rattle.ere_reach.proofs.ReferLemmas.{refers_more, refers_skip, refers_untold}
use Rattle.ere_reach.proofs.StepLemmas.{gone_first, gone_last, place_inside}
use Rattle.ere_reach.proofs.TakenLemmas.{Taken, TakenIn, gone_same, row_same, taken_in_all, taken_in_more, taken_in_none, taken_row}
use Rattle.ere_reach.proofs.reach.reach_by_reference.Goals as goal
use Rattle.ere_reach.proofs.reach.reach_by_reference.Goals.{in-Some+in_ok-held+else-loop-place-test, in_default, then-stands_at+in_ok-put, else-stands_at}

pub loop-row-init : goal.loop-row-init
loop-row-init c =
    let t = back c.args.number c.args.fold in
    gone_first c.args.site (Does c.args.site.text.now t) (reads t) c.args.live.now c.deref-row-items.result.now
    c.new-found.result c.new-found.ensures.none

pub loop-place-init : goal.loop-place-init
loop-place-init c = λ row is. gone_same _ _ _ _ _ _
    (taken_in_none c.deref-row-items.result.now c.loop-row.row-index row.held.items c.deref-place-items.result.now)
    c.loop-row.invariant

pub loop-place-preserved : goal.loop-place-preserved
loop-place-preserved c = λ row is.
    let a = c.args in
    let rows = c.deref-row-items.result.now in
    let k = c.loop-row.row-index in
    let one = c.row-item.result in
    let g = one.held.items in
    let places = c.deref-place-items.result.now in
    let j = c.loop-place.place-index in
    let p = get_or places j 0 in
    let cap = c.in-Some.part in
    let S = TakenIn rows k g places j in
    let T = TakenIn rows k g places (j + 1) in
    let has : part_in g a.number ≡ Some cap = sym (rw c.as_slice.ensures.value at c.in-Some.ensures) in
    let grows = taken_in_more rows k g places j p c.loop-place-test.true refl in
    let gone = c.loop-place.invariant one c.row-item.is in
    rw (row_same rows k row one c.loop-row-test.true is c.row-item.is)
    (elim c.if-stands_at.branch [
      | then-stands_at+in_ok-put w ↦
          let h = c.in_ok-held.held.items in
          rw w.found-is
          (refers_more a.site a.number a.fold a.live.now c.requires.fits g h p cap
          c.stands_at.result S T c.loop-place.found w.put.new.self has c.stands_at.ensures.stands w.if-stands_at.true
          (place_inside a.site a.rows.now rows k one places j c.deref-row-items.ensures.value c.requires.inside
          c.loop-row-test.true c.row-item.is c.deref-place-items.ensures.value c.loop-place-test.true).0
          (c.stands_at.ensures.inside w.if-stands_at.true)
          (rw c.as_slice-in-Some.ensures.value at c.in_ok-held.ensures) grows
          (subst (λ n. IsPut c.loop-place.found h ((p + n) ∷ []) w.put.new.self) w.saturating_sub.ensures
          (rw w.as_slice-then-stands_at.ensures.value at w.in_ok-put.ensures.put)) gone)
      | else-stands_at w ↦
          rw w.found-is
          (refers_skip a.site a.number a.fold a.live.now g p cap c.stands_at.result S T c.loop-place.found has
          c.stands_at.ensures.stands w.if-stands_at.false grows gone)
    ])

pub loop-row-preserved : goal.loop-row-preserved
loop-row-preserved c =
    let a = c.args in
    let rows = c.deref-row-items.result.now in
    let k = c.loop-row.row-index in
    let one = c.row-item.result in
    elim c.match-part_of.branch [
      | in-Some+in_ok-held+else-loop-place-test w ↦
          rw w.found-is
          (gone_same _ _ _ _ _ _
          (taken_in_all rows k one w.deref-place-items.result.now w.loop-place.place-index c.loop-row-test.true
          c.row-item.is w.deref-place-items.ensures.value w.loop-place-test.false)
          (w.loop-place.invariant one c.row-item.is))
      | in_default w ↦
          rw w.found-is
          (refers_untold a.site a.number a.fold a.live.now one.held.items one.places.items (Taken rows k)
          (Taken rows (k + 1)) c.loop-row.found (sym (rw c.as_slice.ensures.value at c.part_of.ensures) ∙ w.in_default.is)
          (taken_row rows k one c.loop-row-test.true c.row-item.is) c.loop-row.invariant)
    ]

pub returns : goal.returns
returns c =
    let t = back c.args.number c.args.fold in
    gone_last c.args.site (Does c.args.site.text.now t) (reads t) c.args.live.now c.args.rows.now c.loop-row.found
    c.deref-row-items.result.now c.loop-row.row-index c.deref-row-items.ensures.value c.loop-row-test.false
    c.loop-row.invariant
