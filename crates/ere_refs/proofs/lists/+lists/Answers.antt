-- Lists of what groups hold, over each form of an expression: each answer turns what the functions called say into what is said
-- of the whole, by a lemma of MachineLemmas or FoundLemmas. The hard ones are those of `advance`, where a state's list stands for
-- the one before the row.
use Rattle.std.proofs.Common.{◌<◌, OnOk, ◌≡◌, ℕ, suc, ◌+◌, ◌-◌, Option, List, [], ◌∷◌, ◌++◌, Vec, Global, length, map, get_or, true, true≢false, eqb-true, sym, ap, ◌∙◌, subst, arith}
use Rattle.std.specs.Prelude.{IfOk, reverse}
use Rattle.std.proofs.lemmas.Bool.{leb-true, ltb-true}
use Rattle.std.proofs.lemmas.List.{get_or-map, length-map}
use Rattle.std.proofs.lemmas.List.Elements.{All-append, All-nil, All-push}
use Rattle.std.proofs.lemmas.Result.{IfOk-weaker, on_ok_weaker}
use Rattle.std.specs.List.{All, AllZip, Contains}
use Rattle.ere_captures.proofs.WalkLemmas.{room_at}
use Rattle.ere_tree.proofs.ViewLemmas.{view_Ref}
use Rattle.ere_tree.specs.Tree.{Tree, alt, cat, trees_of}
use Rattle.ere_tree.specs.View.{view}
use Rattle.ere_tree.specs.declared.ere.Ere.{Ere}
use Rattle.ere_tree.specs.declared.hit.Cap.{Cap}
use Rattle.ere_refs.proofs.FoundLemmas.{alone_listed, alt_tree, cat_tree, first_all, first_enough, first_more, group_tree, none_long, none_of, puts_long, repeat_tree, set_listed, set_long, tells_none, unset_anchor, unset_text}
use Rattle.ere_refs.proofs.ListedLemmas.{alone, in_group, over_alone, over_group, over_no_choice, over_none}
use Rattle.ere_refs.proofs.MachineLemmas.{at_high, last_fits, new_fit, stands_done, stands_enough, stands_leave, stands_next, stands_start, still_fits}
use Rattle.ere_refs.proofs.OverLemmas.{both_left, both_right, known_end, nodes_at, not_end}
use Rattle.ere_refs.proofs.RowLemmas.{refs_at}
use Rattle.ere_refs.specs.Lists.{AreOver, Listed, ListsOver, lists_of}
use Rattle.ere_refs.specs.Machine.{AreLives, FrameFits, Keeps, SetsGroup, Stands, StandsWith, caps_at, count_in, lives_count, new_frame, nodes, tree_of}
use Rattle.ere_refs.specs.Over.{AreEnds}
use Rattle.ere_refs.specs.Refers.{refs_fit}
use Rattle.ere_refs.specs.Site.{AreLong, HasRoom, ListsAt}
use Rattle.ere_refs.specs.declared.kept.State.{State}
use Rattle.ere_refs.specs.declared.lists.Course.{Course}
use Rattle.ere_refs.specs.declared.lists.Frame.{Frame}
use Rattle.ere_refs.specs.declared.lists.Frame.TheVariants.{Open}
use Rattle.ere_refs.proofs.lists.+lists.Goals as goal

-- ONE END OF A STATE

pub advance-over_end-requires : goal.advance-over_end-requires
advance-over_end-requires t c =
    let one = c.args.opened in
    let fits = c.requires.opened in
    let course = c.args.course in
    let tree = view one.next.ere.now in
    let same = sym c.as_slice.ensures.value in
    let long = sym fits.ends.state.2 in (
      omega (arith, c.decreases, fits.small),
      (
        subst (λ n. HasRoom n tree) (long ∙ ap length same) fits.room,
        (
          (
            omega (arith, fits.ends.behind.1, c.if-opened.false),
            omega (arith, fits.ends.high, c.requires.course.3.1),
            c.requires.course.3.2,
          ),
          (
            course.site.part.to,
            omega (arith, fits.ends.high),
            subst (λ (xs : List (Option Cap)). AreEnds course.site.text.now tree course.site.part.start one.state.place
                course.site.part.to (length xs) xs one.ends) same
                (subst (λ n. AreEnds course.site.text.now tree course.site.part.start one.state.place course.site.part.to n
                one.state.caps.items one.ends) long fits.ends.ends),
          ),
        ),
      ),
    )

pub advance-returns-then-opened-clause-keeps : goal.advance-returns-then-opened-clause-keeps
advance-returns-then-opened-clause-keeps t c =
    let old = c.args.progress.now in
    on_ok_weaker c.put.result
    (λ put d st. stands_leave c.args.course d c.args.opened old.frames.items old.found.states.items old.left.states.items
    c.put.new.self.states.items c.requires.opened c.if-opened.true put st) c.put.ensures

pub advance-returns-clause-fits : goal.advance-returns-clause-fits
advance-returns-clause-fits t c =
    let course = c.args.course in
    let one = c.args.opened in
    let fits = c.requires.opened in
    let to = one.high - 1 in
    let high : one.high ≡ suc to = omega (arith, c.if-opened.false) in
    let lists = c.in_ok-found.found.items in
    let frames = c.args.progress.now.frames.items in
    let more = reverse (map (new_frame one.next.stage to) lists) in
    let long : AreLong (count_in course) (map (λ held. held.items) lists) =
    subst (λ n. AreLong n (map (λ held. held.items) lists)) (ap length c.as_slice.ensures.value ∙ fits.ends.state.2)
    c.in_ok-found.ensures.1 in
    let Fit = FrameFits course in
    on_ok_weaker c.push_all.result
    (λ put. (
      subst (All Fit) (sym (put ∙ ap (λ xs. xs ++ more) c.in_ok-push.ensures.items))
          (All-append Fit (frames ++ Open (at_high one to) ∷ []) more
          (All-push Fit frames (Open (at_high one to)) c.requires.progress.0 (still_fits course one to fits high))
          (new_fit course one.next.stage to lists (omega (arith, fits.ends.state.0, fits.ends.behind.1, c.if-opened.false))
          (omega (arith, fits.ends.high)) long)),
      c.requires.progress.1,
    )) c.push_all.ensures

pub advance-returns-clause-keeps : goal.advance-returns-clause-keeps
advance-returns-clause-keeps t c =
    let course = c.args.course in
    let s = course.site.text.now in
    let start = course.site.part.start in
    let one = c.args.opened in
    let fits = c.requires.opened in
    let to = one.high - 1 in
    let tree = view one.next.ere.now in
    let P = Contains one.next.behind.now in
    let high : one.high ≡ suc to = omega (arith, c.if-opened.false) in
    let lists = c.in_ok-found.found.items in
    let old = c.args.progress.now in
    let more = reverse (map (new_frame one.next.stage to) lists) in
    let over =
    subst (λ n. ListsOver s tree start one.state.place to n P one.state.caps.items lists) fits.ends.state.2
    (subst (λ (xs : List (Option Cap)). ListsOver s tree start one.state.place to (length xs) P xs lists)
    c.as_slice.ensures.value c.in_ok-found.ensures.0) in
    on_ok_weaker c.push_all.result
    (λ put d st. subst (λ (xs : List Frame). StandsWith course d xs old)
    (sym (put ∙ ap (λ xs. xs ++ more) c.in_ok-push.ensures.items))
    (stands_next course d one to old.frames.items old.found.states.items old.left.states.items lists fits high
    (omega (arith, c.if-opened.false)) over st)) c.push_all.ensures

pub over_end-returns-then-not-may_be : goal.over_end-returns-then-not-may_be
over_end-returns-then-not-may_be t c =
    let site = c.args.site in
    let part = site.part in
    let tree = view c.args.ere.now in (
      λ d is. (
        [],
        over_none site.text.now tree part.from part.to d (Contains site.live.now)
            (not_end site.text.now tree part.start part.from part.to c.requires.ends.0 (length site.caps.now) site.caps.now
            c.args.ends.now c.requires.ends.2 c.requires.ends.1 (sym c.may_be.ensures ∙ c.if-not-may_be.true) d is),
        ap (map (λ held. held.items)) c.new.ensures.items,
      ),
      none_long (length site.caps.now) c.new.result.items c.new.ensures.items,
    )

pub over_end-over-requires : goal.over_end-over-requires
over_end-over-requires t c =
    let site = c.args.site in (
      omega (arith, c.decreases),
      (
        (λ yes. known_end site.text.now (view c.args.ere.now) site.part.start site.part.from site.part.to
            (length site.caps.now) site.caps.now c.args.ends.now c.requires.ends (sym c.is_known.ensures ∙ yes)
            (sym c.may_be.ensures ∙ c.if-not-may_be.false)),
        (c.requires.room, c.requires.site),
      ),
    )

pub over_end-returns : goal.over_end-returns
over_end-returns t c = c.over.ensures

-- THE STACK

pub run-loop-init : goal.run-loop-init
run-loop-init t c = record { fits = c.requires.progress; stands = λ d st. st }

pub run-returns-then-len-gt0 : goal.run-returns-then-len-gt0
run-returns-then-len-gt0 t c =
    let course = c.args.course in
    let now = c.loop.progress in (
      λ d st. stands_enough course d now.frames.items now.found.states.items now.left.states.items
          (c.loop.invariant.stands d st)
          (none_of course.site.live.now
          (eqb-true (length course.site.live.now) 0 (sym c.is_empty.ensures ∙ c.if-is_empty.true)))
          (omega (arith, c.len.ensures, c.if-len-gt0.true)),
      c.loop.invariant.fits.1,
    )

pub run-returns-in-None : goal.run-returns-in-None
run-returns-in-None t c =
    let course = c.args.course in
    let now = c.loop.progress in (
      λ d st. stands_done course d now.found.states.items now.left.states.items
          (subst (λ (xs : List Frame). StandsWith course d xs now)
          (none_of now.frames.items (omega (arith, c.in-None.ensures.cases, now.frames.ok))) (c.loop.invariant.stands d st)),
      c.loop.invariant.fits.1,
    )

pub step-open-requires-clause-state : goal.step-open-requires-clause-state
step-open-requires-clause-state t c = subst (FrameFits c.args.course) c.in-New.is c.requires.frame

pub step-advance-requires : goal.step-advance-requires
step-advance-requires t c = (
  omega (arith, c.decreases),
  (c.requires.course, (subst (FrameFits c.args.course) c.in-Open.is c.requires.frame, c.requires.progress)),
)

pub step-returns-in-New-clause-keeps : goal.step-returns-in-New-clause-keeps
step-returns-in-New-clause-keeps t c =
    subst (λ (top : Frame). OnOk c.open.result (Keeps c.args.course c.args.progress.now top c.open.new.progress))
    (sym c.in-New.is) c.open.ensures.keeps

pub step-returns-in-Open-clause-keeps : goal.step-returns-in-Open-clause-keeps
step-returns-in-Open-clause-keeps t c =
    subst (λ (top : Frame). OnOk c.advance.result (Keeps c.args.course c.args.progress.now top c.advance.new.progress))
    (sym c.in-Open.is) c.advance.ensures.keeps

pub run-step-requires : goal.run-step-requires
run-step-requires t c =
    let fit = last_fits (FrameFits c.args.course) c.loop.progress.frames.items c.pop.new.self.items c.in-Some.frame
    c.in-Some.ensures.items c.loop.invariant.fits.0 in
    (omega (arith, c.decreases), (c.requires.course, (fit.1, (fit.0, c.loop.invariant.fits.1))))

pub run-loop-preserved : goal.run-loop-preserved
run-loop-preserved t c = record {
  fits = c.in_ok-step-in-Some.ensures.fits;
  stands = λ d st. c.in_ok-step-in-Some.ensures.keeps d
      (subst (λ (xs : List Frame). StandsWith c.args.course d xs c.loop.progress) c.in-Some.ensures.items
      (c.loop.invariant.stands d st));
}

-- A ROW

pub over_row-run-requires : goal.over_row-run-requires
over_row-run-requires t c =
    let site = c.args.site in
    let begins = c.in_ok-start.ensures.begins in
    let course : Course = record { row = c.args.row; lives = c.as_slice.result; site = site } in
    let Fit = FrameFits course in
    let same = sym c.as_slice.ensures.value in (
      omega (arith, c.decreases),
      (
        (
          subst (λ (xs : List (Vec ℕ Global)). length xs ≡ lives_count c.args.row) same c.in_ok-lives.ensures.count,
          subst (λ (xs : List (Vec ℕ Global)). AreLives c.args.row xs site.live.now) same c.in_ok-lives.ensures.lives,
          c.requires.room,
          c.requires.site,
        ),
        (
          subst (All Fit) (sym (begins.2 ∙ ap (λ xs. xs ++ new_frame 0 site.part.from begins.0 ∷ []) c.new-progress.ensures.frames))
              (All-push Fit [] (new_frame 0 site.part.from begins.0) (All-nil Fit)
              (omega arith, c.requires.site.0, ap length begins.1)),
          subst (λ (xs : List State). AreLong (count_in course) (map caps_at xs))
              (sym (c.in_ok-start.ensures.found ∙ c.new-progress.ensures.found))
              (All-nil (λ (ys : List (Option Cap)). length ys ≡ count_in course)),
        ),
      ),
    )

pub over_row-returns : goal.over_row-returns
over_row-returns t c =
    let site = c.args.site in
    let begins = c.in_ok-start.ensures.begins in
    let course : Course = record { row = c.args.row; lives = c.as_slice.result; site = site } in
    let one = new_frame 0 site.part.from begins.0 in
    let now = c.start.new.progress in
    IfOk-weaker c.finish.result
    (λ found. map (λ held. held.items) found.items ≡ map caps_at c.run.new.progress.found.states.items)
    (ListsAt site (tree_of c.args.row))
    (λ found is. (
      λ d held.
          let frames = begins.2 ∙ ap (λ xs. xs ++ one ∷ []) c.new-progress.ensures.frames in
          let starts = subst (λ (xs : List Frame). StandsWith course d xs now) (sym frames)
          (subst (λ (xs : List State). Stands course d (one ∷ []) xs now.left.states.items)
          (sym (c.start.ensures.found ∙ c.new-progress.ensures.found))
          (subst (λ (xs : List State). Stands course d (one ∷ []) [] xs) (sym (c.start.ensures.left ∙ c.new-progress.ensures.left))
          (stands_start course d begins.0 (begins.1 ∙ held)))) in
          let done = c.in_ok-run.ensures.0 d starts in
          (done.0, done.1, is ∙ done.2),
      subst (AreLong (count_in course)) (sym is) c.in_ok-run.ensures.1,
    )) c.finish.ensures

-- ONE PART ALONE

pub over_parts-over-requires : goal.over_parts-over-requires
over_parts-over-requires t c =
    let items = c.args.parts.now in
    let one = c.in-Some.one.now in
    let count = length c.args.site.caps.now in
    let cases = c.in-Some.ensures.cases.0 in
    let long = ap length cases in
    let low : 0 < length items = omega (arith, long) in
    let is : one ≡ get_or items 0 one = sym (ap (λ (xs : List Ere). get_or xs 0 one) cases) in
    let size = nodes_at items 0 one low is in (
      omega (arith, c.decreases, size),
      (
        (λ no. absurd (true≢false (sym no))),
        (
          (refs_at count items 0 one low is c.requires.room.0, room_at items 0 one count low is c.requires.room.1),
          c.requires.site,
        ),
      ),
    )

pub over_parts-returns-then-is_empty : goal.over_parts-returns-then-is_empty
over_parts-returns-then-is_empty t c =
    let site = c.args.site in
    let s = site.text.now in
    let part = site.part in
    let count = length site.caps.now in
    let P = Contains site.live.now in
    let one = c.in-Some.one.now in
    let none = none_of c.in-Some.others.now
    (eqb-true (length c.in-Some.others.now) 0 (sym c.is_empty.ensures ∙ c.if-is_empty.true)) in
    let tree = sym (ap (λ (xs : List Ere). cat (trees_of (map view xs))) (c.in-Some.ensures.cases.0 ∙ ap (λ ys. one ∷ ys) none)) in
    IfOk-weaker c.over.result (ListsAt site (view one)) (ListsAt site (cat (trees_of (map view c.args.parts.now))))
    (λ found lists. (
      λ d is.
          let all = lists.0 d is in
          subst (λ u. (xs : Listed) × AreOver s u part.from part.to d P xs
          × (map (λ held. held.items) found.items ≡ lists_of part.start count xs)) tree (
            map (alone part.to) all.0,
            over_alone s (view one) part.from part.to d P all.0 c.requires.site.1 all.1,
            all.2 ∙ alone_listed part.start count part.to all.0,
          ),
      lists.1,
    )) c.over.ensures

-- ALTERNATIVES

pub over_one-loop-one-init : goal.over_one-loop-one-init
over_one-loop-one-init t c =
    let site = c.args.site in
    record {
      long = subst (λ (xs : List State). AreLong (length site.caps.now) (map caps_at xs)) (sym c.new-found.ensures)
          (All-nil (λ (ys : List (Option Cap)). length ys ≡ length site.caps.now));
      first = λ d is. (
        [],
        over_no_choice site.text.now (trees_of (map view c.args.choices.now)) site.part.from site.part.to d
            (Contains site.live.now),
        ap (map caps_at) c.new-found.ensures,
      );
    }

pub over_one-over-requires : goal.over_one-over-requires
over_one-over-requires t c =
    let items = c.args.choices.now in
    let one = c.one-item.result in
    let k = c.loop-one.one-index in
    let count = length c.args.site.caps.now in
    let size = nodes_at items k one c.loop-one-test.true c.one-item.is in (
      omega (arith, c.decreases, size),
      (
        (λ no. absurd (true≢false (sym no))),
        (
          (
            refs_at count items k one c.loop-one-test.true c.one-item.is c.requires.room.0,
            room_at items k one count c.loop-one-test.true c.one-item.is c.requires.room.1,
          ),
          c.requires.site,
        ),
      ),
    )

pub over_one-loop-one-preserved : goal.over_one-loop-one-preserved
over_one-loop-one-preserved t c =
    let site = c.args.site in
    let live = site.live.now in
    let count = length site.caps.now in
    let lists = c.in_ok-lists.lists.items in
    let old = c.loop-one.found.states.items in
    let new = c.put_all.new.found.states.items in
    record {
      long = puts_long live count (map (λ held. held.items) lists) c.in_ok-lists.ensures.1 old new c.in_ok-put_all.ensures
          c.loop-one.invariant.long;
      first = λ d is.
          let over = c.in_ok-lists.ensures.0 d is in
          first_more site.text.now c.args.choices.now live site.part count d c.loop-one.one-index c.one-item.result old new
          lists c.loop-one-test.true c.one-item.is (c.loop-one.invariant.first d is) over.0 over.1 over.2 c.in_ok-put_all.ensures;
    }

pub over_one-returns-then-len-gt0 : goal.over_one-returns-then-len-gt0
over_one-returns-then-len-gt0 t c =
    let site = c.args.site in
    let s = site.text.now in
    let items = c.args.choices.now in
    let live = site.live.now in
    let part = site.part in
    let count = length site.caps.now in
    let k = c.loop-one.one-index in
    let lists = c.in_ok-lists.lists.items in
    let before = c.loop-one.found.states.items in
    let now = c.put_all.new.found.states.items in
    IfOk-weaker c.into_caps.result (λ found. map (λ held. held.items) found.items ≡ map caps_at now)
    (ListsAt site (alt (trees_of (map view items))))
    (λ found same. (
      λ d is.
          let over = c.in_ok-lists.ensures.0 d is in
          let first = first_more s items live part count d k c.one-item.result before now lists c.loop-one-test.true
          c.one-item.is (c.loop-one.invariant.first d is) over.0 over.1 over.2 c.in_ok-put_all.ensures in
          let all = first_enough s items live part count d (k + 1) now
          (none_of live (eqb-true (length live) 0 (sym c.is_empty.ensures ∙ c.if-is_empty.true)))
          (omega (arith, c.len.ensures, c.if-len-gt0.true)) first in
          (all.0, all.1, same ∙ all.2),
      subst (AreLong count) (sym same)
          (puts_long live count (map (λ held. held.items) lists) c.in_ok-lists.ensures.1 before now c.in_ok-put_all.ensures
          c.loop-one.invariant.long),
    )) c.into_caps.ensures

pub over_one-returns : goal.over_one-returns
over_one-returns t c =
    let site = c.args.site in
    let items = c.args.choices.now in
    let count = length site.caps.now in
    let now = c.loop-one.found.states.items in
    IfOk-weaker c.into_caps-2.result (λ found. map (λ held. held.items) found.items ≡ map caps_at now)
    (ListsAt site (alt (trees_of (map view items))))
    (λ found same. (
      λ d is.
          let all = first_all site.text.now items site.live.now site.part count d c.loop-one.one-index now
          (omega (arith, c.loop-one-test.false)) (c.loop-one.invariant.first d is) in
          (all.0, all.1, same ∙ all.2),
      subst (AreLong count) (sym same) c.loop-one.invariant.long,
    )) c.into_caps-2.ensures

-- ONE EXPRESSION

pub over-over_parts-requires : goal.over-over_parts-requires
over-over_parts-requires t c =
    let tree = sym (cat_tree c.args.ere.now c.in-Cat.parts c.as_slice.result.now c.as_slice.ensures c.in-Cat.is) in
    let size = ap nodes tree in
    (omega (arith, c.decreases, size), (subst (HasRoom (length c.args.site.caps.now)) tree c.requires.room, c.requires.site))

pub over-over_row-requires : goal.over-over_row-requires
over-over_row-requires t c =
    let tree = sym (repeat_tree c.args.ere.now c.in-Repeat.inner c.in-Repeat.least c.in-Repeat.most c.deref.result.now
    c.deref.ensures c.in-Repeat.is) in
    let size = ap nodes tree in
    (omega (arith, c.decreases, size), (subst (HasRoom (length c.args.site.caps.now)) tree c.requires.room, c.requires.site))

pub over-over_one-requires : goal.over-over_one-requires
over-over_one-requires t c =
    let tree = sym (alt_tree c.args.ere.now c.in-Alt.choices c.as_slice-in-Alt.result.now c.as_slice-in-Alt.ensures c.in-Alt.is) in
    let size = ap nodes tree in
    (omega (arith, c.decreases, size), (subst (HasRoom (length c.args.site.caps.now)) tree c.requires.room, c.requires.site))

pub over-over-requires : goal.over-over-requires
over-over-requires t c =
    let tree = sym (group_tree c.args.ere.now c.in-Group.inner c.in-Group.number c.deref-in-Group.result.now
    c.deref-in-Group.ensures c.in-Group.is) in
    let size = ap nodes tree in
    let room = subst (HasRoom (length c.args.site.caps.now)) tree c.requires.room in
    let most = room.1 in (
      omega (arith, c.decreases, size),
      ((λ no. absurd (true≢false (sym no))), ((room.0, omega (arith, most)), c.requires.site)),
    )

pub over-set_all-requires-clause-number : goal.over-set_all-requires-clause-number
over-set_all-requires-clause-number t c = λ k d low.
    let tree = sym (group_tree c.args.ere.now c.in-Group.inner c.in-Group.number c.deref-in-Group.result.now
    c.deref-in-Group.ensures c.in-Group.is) in
    let room = (subst (HasRoom (length c.args.site.caps.now)) tree c.requires.room).1 in
    let found = c.in_ok-found-in-Group.found.items in
    let long = c.in_ok-found-in-Group.ensures.1 k [] (omega (arith, length-map found (λ held. held.items), low)) in
    let here = ap length (get_or-map (λ held. held.items) found k d [] low) in
    omega (arith, room, long, here, (get_or found k d).ok)

pub over-returns-in-Cat : goal.over-returns-in-Cat
over-returns-in-Cat t c =
    subst (λ (u : Tree). IfOk c.over_parts.result (ListsAt c.args.site u))
    (cat_tree c.args.ere.now c.in-Cat.parts c.as_slice.result.now c.as_slice.ensures c.in-Cat.is) c.over_parts.ensures

pub over-returns-in-Repeat : goal.over-returns-in-Repeat
over-returns-in-Repeat t c =
    subst (λ (u : Tree). IfOk c.over_row.result (ListsAt c.args.site u))
    (repeat_tree c.args.ere.now c.in-Repeat.inner c.in-Repeat.least c.in-Repeat.most c.deref.result.now c.deref.ensures
    c.in-Repeat.is) c.over_row.ensures

pub over-returns-in-Alt : goal.over-returns-in-Alt
over-returns-in-Alt t c =
    subst (λ (u : Tree). IfOk c.over_one.result (ListsAt c.args.site u))
    (alt_tree c.args.ere.now c.in-Alt.choices c.as_slice-in-Alt.result.now c.as_slice-in-Alt.ensures c.in-Alt.is) c.over_one.ensures

pub over-returns-in_ok-found-in-Group : goal.over-returns-in_ok-found-in-Group
over-returns-in_ok-found-in-Group t c =
    let site = c.args.site in
    let s = site.text.now in
    let part = site.part in
    let count = length site.caps.now in
    let P = Contains site.live.now in
    let n = c.in-Group.number in
    let inner = view c.deref-in-Group.result.now in
    let found = c.in_ok-found-in-Group.found.items in
    let tree = group_tree c.args.ere.now c.in-Group.inner n c.deref-in-Group.result.now c.deref-in-Group.ensures c.in-Group.is in
    IfOk-weaker c.set_all.result (λ set. AllZip (SetsGroup part n) found set.items) (ListsAt site (view c.args.ere.now))
    (λ set sets. (
      λ d is.
          let over = c.in_ok-found-in-Group.ensures.0 d is in
          subst (λ u. (all : Listed) × AreOver s u part.from part.to d P all
          × (map (λ held. held.items) set.items ≡ lists_of part.start count all)) tree (
            map (in_group n (part.from, part.to)) over.0,
            over_group s n inner part.from part.to d P over.0 over.1,
            set_listed part n count found set.items over.0 sets over.2,
          ),
      set_long part n count found set.items sets c.in_ok-found-in-Group.ensures.1,
    )) c.set_all.ensures

pub over-returns-in-Ref : goal.over-returns-in-Ref
over-returns-in-Ref t c =
    subst (λ (u : Tree). IfOk c.over_ref.result (ListsAt c.args.site u))
    (sym (ap view c.in-Ref.is ∙ view_Ref c.in-Ref.number c.in-Ref.fold)) c.over_ref.ensures

pub over-over_ref-requires-clause-some : goal.over-over_ref-requires-clause-some
over-over_ref-requires-clause-some t c =
    let fits = subst (λ u. refs_fit (length c.args.site.caps.now) u ≡ true)
    (ap view c.in-Ref.is ∙ view_Ref c.in-Ref.number c.in-Ref.fold) c.requires.room.0 in
    ltb-true 0 c.in-Ref.number (both_left _ _ fits)

pub over-over_ref-requires-clause-number : goal.over-over_ref-requires-clause-number
over-over_ref-requires-clause-number t c =
    let fits = subst (λ u. refs_fit (length c.args.site.caps.now) u ≡ true)
    (ap view c.in-Ref.is ∙ view_Ref c.in-Ref.number c.in-Ref.fold) c.requires.room.0 in
    leb-true c.in-Ref.number (length c.args.site.caps.now) (both_right _ _ fits)

pub over-over_free-requires-clause-tells : goal.over-over_free-requires-clause-tells
over-over_free-requires-clause-tells t c = c.tells.ensures c.if-tells.true

pub over-over_free-requires-in-Empty-clause-tells : goal.over-over_free-requires-in-Empty-clause-tells
over-over_free-requires-in-Empty-clause-tells t c =
    tells_none (view c.args.ere.now) c.args.site.live.now (λ n. unset_text c.args.ere.now n c.in-Empty.is)

pub over-over_free-requires-in-LineStart-clause-tells : goal.over-over_free-requires-in-LineStart-clause-tells
over-over_free-requires-in-LineStart-clause-tells t c =
    tells_none (view c.args.ere.now) c.args.site.live.now (λ n. unset_anchor c.args.ere.now n c.in-LineStart.is)
