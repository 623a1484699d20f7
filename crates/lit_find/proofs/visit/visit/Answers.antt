-- The walk of a word goes on behind one directory, or that is refused: by what the look gave, over the nodes that the tree
-- tells, where it tells them. The long goals are `returns-then-len-saturating_sub-clause-gives` and
-- `returns-in-Ok-clause-gives`: what was looked at has room, and is walked through.
use Rattle.lit_find.proofs.Names.{◌≡◌, length, Some, Ok, Err, IfSome, sym, ap, subst, ◌∙◌, arith, Dir, File, text_of, kind_of, GivesLook, IsNumberOf, IsThrough, has_text}
use Rattle.std.proofs.lemmas.Option.{slice_get_within}
use Rattle.lit_look.specs.Looks.{GivesListed}
use Rattle.lit_find.proofs.RoomLemmas.{room_entered}
use Rattle.lit_find.proofs.VisitLemmas.{its_ahead, its_room, visit_refused, visited, visited_again}
use Rattle.lit_find.proofs.visit.visit.Goals as goal

pub returns-then-contains-clause-gives : goal.returns-then-contains-clause-gives
returns-then-contains-clause-gives g c = λ least nodes words word first told is.
    visited_again nodes words word first c.args.seen.now c.args.place c.args.walk.now is least
    (ap (has_text c.args.walk.now.walked) (sym (c.as_slice.ensures ∙ c.in_ok-path.ensures ∙ ap text_of c.as_slice-dir.ensures))
    ∙ sym c.contains.ensures ∙ c.if-contains.true)

pub at-looked-requires : goal.at-looked-requires
at-looked-requires g c =
    let new = c.look_through.new.seen in
    let (looked, there, same) = subst (λ o. IfSome o (λ one. IsNumberOf new c.as_slice-dir.result.now one.0))
    c.in-Ok-Some.field-0-is c.in-Ok-Some.ensures.number in
    slice_get_within new c.in-Ok-Some.number looked there

pub returns-then-len-saturating_sub-clause-gives : goal.returns-then-len-saturating_sub-clause-gives
returns-then-len-saturating_sub-clause-gives g c = λ least nodes words word first told is.
    let listed = c.in-Ok-Some in
    let fits = its_room nodes words word first c.args.seen.now c.args.place c.args.walk.now is least c.look_through.new.seen
    c.as_slice-dir.result.now listed.field-0 listed.number listed.items c.at-looked.result.now c.as_slice-dir.ensures
    listed.field-0-is (listed.ensures.gives nodes told is.looks) listed.ensures.number c.at-looked.ensures.is
    listed.ensures.extends
    (ap (has_text c.args.walk.now.walked) (sym (c.as_slice.ensures ∙ c.in_ok-path.ensures ∙ ap text_of c.as_slice-dir.ensures))
    ∙ sym c.contains.ensures ∙ c.if-contains.false) in
    absurd (omega (
      arith,
      fits,
      c.at-looked.ensures.within,
      c.len.ensures,
      c.saturating_sub.ensures,
      c.if-len-saturating_sub.true,
    ))

pub enter-requires-clause-room : goal.enter-requires-clause-room
enter-requires-clause-room g c =
    omega (
      arith,
      ap length c.as_slice-in-Ok-Some.ensures,
      c.len.ensures,
      c.saturating_sub.ensures,
      c.if-len-saturating_sub.false,
    )

pub returns-in-Ok-clause-gives : goal.returns-in-Ok-clause-gives
returns-in-Ok-clause-gives g c = λ least nodes words word first told is.
    let listed = c.in-Ok-Some in
    visited nodes words word first c.args.seen.now c.args.place c.args.walk.now is least c.look_through.new.seen
    c.as_slice-dir.result.now listed.field-0 listed.number listed.items c.at-looked.result.now c.as_slice-dir.ensures
    listed.field-0-is (listed.ensures.gives nodes told is.looks) listed.ensures.number c.at-looked.ensures.is
    listed.ensures.extends
    (ap (has_text c.args.walk.now.walked) (sym (c.as_slice.ensures ∙ c.in_ok-path.ensures ∙ ap text_of c.as_slice-dir.ensures))
    ∙ sym c.contains.ensures ∙ c.if-contains.false) c.enter.new.walk
    (subst (λ all. IsThrough c.at-looked.result.now all c.args.place.suite c.args.walk.now c.enter.new.walk)
    c.as_slice-in-Ok-Some.ensures c.in-Ok.ensures)

pub returns-in-Ok-clause-room : goal.returns-in-Ok-clause-room
returns-in-Ok-clause-room g c =
    room_entered c.in-Ok.ensures (omega (
      arith,
      ap length c.as_slice-in-Ok-Some.ensures,
      c.len.ensures,
      c.saturating_sub.ensures,
      c.if-len-saturating_sub.false,
    ))

pub returns-in-Ok-None-clause-gives : goal.returns-in-Ok-None-clause-gives
returns-in-Ok-None-clause-gives g c = λ least nodes words word first told is.
    let file = (subst (λ found. GivesListed nodes c.as_slice-dir.result.now c.args.seen.now c.look_through.new.seen (Ok found))
    c.in-Ok-None.field-0-is (c.in-Ok-None.ensures.gives nodes told is.looks)).0 in
    let ahead = its_ahead nodes words word first c.args.seen.now c.args.place c.args.walk.now is least in
    let both : Some Dir ≡ Some File =
    sym ahead.is_dir ∙ subst (λ dir. kind_of nodes dir ≡ Some File) c.as_slice-dir.ensures file in
    absurd (cc)

pub returns-clause-gives : goal.returns-clause-gives
returns-clause-gives g c = λ least nodes words word first told is.
    visit_refused nodes words word first c.args.seen.now c.args.place c.args.walk.now is least c.look_through.new.seen
    c.args.walk.now c.in-Err.fault
    (subst (λ dir. GivesLook nodes dir c.args.seen.now c.look_through.new.seen (Err c.in-Err.fault)) c.as_slice-dir.ensures
    (c.in-Err.ensures.gives nodes told is.looks))
