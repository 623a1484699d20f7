-- A state that is opened: the stack and what is found fit as before, and each row is found or goes on from a spot as before.
-- What follows the stage tells which lemma of MachineLemmas carries the stack over: drop, end, like or open.
-- The hard one is `opened`, where the ends of what follows are those of the opened state.
use Rattle.std.proofs.Common.{◌≡◌, ◌<◌, true, List, [], ◌∷◌, ◌++◌, refl, sym, subst, eqb-true}
use Rattle.std.proofs.lemmas.List.Elements.{All-push}
use Rattle.std.proofs.lemmas.Result.{on_ok_weaker}
use Rattle.std.specs.List.{All, Contains}
use Rattle.ere_refs.proofs.FoundLemmas.{put_long}
use Rattle.ere_refs.proofs.MachineLemmas.{is_at_end, stands_drop, stands_end, stands_like, stands_open}
use Rattle.ere_refs.specs.Refers.{refs_fit}
use Rattle.ere_refs.specs.Site.{HasRoom}
use Rattle.ere_tree.specs.View.{view}
use Rattle.ere_refs.specs.Machine.{EndsFit, FrameFits, NextFits, OpenFits, StandsWith, count_in, nodes, rest_in, row_nodes}
use Rattle.ere_refs.specs.declared.kept.State.{State}
use Rattle.ere_refs.specs.declared.lists.Frame.{Frame}
use Rattle.ere_refs.specs.declared.lists.Frame.TheVariants.{New, Open}
use Rattle.ere_refs.specs.declared.row.Next.{Next}
use Rattle.ere_refs.proofs.lists.open.Goals as goal

pub opened_of-requires-clause-state : goal.opened_of-requires-clause-state
opened_of-requires-clause-state c = (c.requires.state.0, c.requires.state.1, refl)

pub opened_of-requires-clause-refs : goal.opened_of-requires-clause-refs
opened_of-requires-clause-refs c =
    subst (λ n. refs_fit n (view c.in-One.next.ere.now) ≡ true) (sym c.requires.state.2)
    (c.in-One.ensures.room (count_in c.args.course) c.requires.course.2).0

pub returns-in-Nothing-clause-keeps : goal.returns-in-Nothing-clause-keeps
returns-in-Nothing-clause-keeps c = λ d stands.
    let course = c.args.course in
    let state = c.args.state in
    let old = c.args.progress.now in
    stands_drop course d state old.frames.items old.found.states.items old.left.states.items stands
    (λ b is rs e rest. absurd (c.in-Nothing.ensures.fits course.site.live.now c.requires.course.1 course.site.text.now state.place
    course.site.part.to b e rs (is_at_end state.place course.site.part.to c.requires.state.1) rest))

pub returns-then-has-clause-keeps : goal.returns-then-has-clause-keeps
returns-then-has-clause-keeps c = λ d stands.
    let course = c.args.course in
    let state = c.args.state in
    let old = c.args.progress.now in
    let one = c.in-One.next in
    stands_like course d state old.frames.items old.found.states.items old.left.states.items stands (view one.ere.now)
    one.further one.stage one.before.now one.behind.now
    (c.in-One.ensures.fits course.site.live.now c.requires.course.1 course.site.text.now state.place course.site.part.to
    (is_at_end state.place course.site.part.to c.requires.state.1)) (c.has.ensures c.if-has.true)

pub returns-in-End-clause-keeps : goal.returns-in-End-clause-keeps
returns-in-End-clause-keeps c =
    let course = c.args.course in
    let s = course.site.text.now in
    let to = course.site.part.to in
    let state = c.args.state in
    let old = c.args.progress.now in
    let fits = c.in-End.ensures.fits course.site.live.now c.requires.course.1 in
    on_ok_weaker c.put_found.result
    (λ puts d stands. stands_end course d state old.frames.items old.found.states.items c.put_found.new.found.states.items
    old.left.states.items stands (eqb-true state.place to fits.0) (λ b e rs rest. fits.1 s to b e rs rest)
    (λ b. fits.2 s to b c.requires.course.3.1) puts) c.put_found.ensures

pub returns-in-End-clause-fits : goal.returns-in-End-clause-fits
returns-in-End-clause-fits c =
    let course = c.args.course in
    on_ok_weaker c.put_found.result
    (λ puts. (
      c.requires.progress.0,
      put_long course.site.live.now (count_in course) c.args.state.caps.items c.requires.state.2
          c.args.progress.now.found.states.items c.put_found.new.found.states.items puts c.requires.progress.1,
    )) c.put_found.ensures

opened : (c : goal.In_ok-push) → OpenFits c.args.course c.in_ok-opened.opened
opened c =
    let course = c.args.course in
    let s = course.site.text.now in
    let to = course.site.part.to in
    let live = course.site.live.now in
    let state = c.args.state in
    let count = count_in course in
    let one = c.in_ok-opened.opened in
    let same = c.in_ok-opened.ensures.same in
    record {
      follows =
          subst (λ (x : State). NextFits s (rest_in course) (Contains live) x.stage x.place to (view one.next.ere.now)
          one.next.further one.next.stage one.next.before.now one.next.behind.now) (sym same.0)
          (subst (λ (x : Next). NextFits s (rest_in course) (Contains live) state.stage state.place to (view x.ere.now)
          x.further x.stage x.before.now x.behind.now) (sym same.1)
          (c.in-One.ensures.fits live c.requires.course.1 s state.place to (is_at_end state.place to c.requires.state.1)));
      ends = subst (λ n. EndsFit s course.site.part n one) c.requires.state.2 c.in_ok-opened.ensures.ends;
      room = subst (λ (x : Next). HasRoom count (view x.ere.now)) (sym same.1) (c.in-One.ensures.room count c.requires.course.2);
      small = subst (λ (x : Next). nodes (view x.ere.now) < row_nodes course.row) (sym same.1) c.in-One.ensures.small;
    }

pub returns-clause-fits : goal.returns-clause-fits
returns-clause-fits c =
    let Fits = FrameFits c.args.course in (
      subst (All Fits) (sym c.in_ok-push.ensures.items)
          (All-push Fits c.args.progress.now.frames.items (Open c.in_ok-opened.opened) c.requires.progress.0 (opened c)),
      c.requires.progress.1,
    )

pub returns-clause-keeps : goal.returns-clause-keeps
returns-clause-keeps c = λ d stands.
    let course = c.args.course in
    let one = c.in_ok-opened.opened in
    let old = c.args.progress.now in
    subst (λ (xs : List Frame). StandsWith course d xs old) (sym c.in_ok-push.ensures.items)
    (stands_open course d one old.frames.items old.found.states.items old.left.states.items (opened c)
    c.in_ok-opened.ensures.below (subst (λ (x : State). StandsWith course d (old.frames.items ++ New x ∷ []) old)
    (sym c.in_ok-opened.ensures.same.0) stands))
