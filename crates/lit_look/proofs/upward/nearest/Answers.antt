-- The loop from a directory upward: those that were passed have no suite, and the first that has one is the nearest.
-- A turn looks at one directory more; the answers say so over the nodes that the tree tells, where it tells them.
-- The long goal is `loop-number-preserved`.
use Rattle.std.proofs.Common.{◌≡◌, [], ◌++◌, ◌∷◌, sym, ap, ◌∙◌, append-nil, refl, subst, IfSome}
use Rattle.std.proofs.lemmas.Option.{slice_get_within}
use Rattle.lit_look.proofs.ClimbLemmas.{climbs_next, climbs_refused, climbs_start, climbs_to_root, climbs_to_suite, extends_more, lies_above, no_parts, parts_above, step_of}
use Rattle.lit_look.proofs.TreeLemmas.{leaves_on, leaves_still}
use Rattle.lit_look.specs.Looks.{IsNumberOf}
use Rattle.lit_look.proofs.upward.nearest.Goals as goal

pub loop-number-init : goal.loop-number-init
loop-number-init g c = record {
  parts = c.requires.parts;
  inside = ([], sym (append-nil c.args.dir.now));
  climbs = λ nodes is looks nested. climbs_start nodes c.args.dir.now c.args.seen.now looks;
  extends = ([], sym (append-nil c.args.seen.now));
  tree = leaves_still refl;
}

pub suite_of-requires : goal.suite_of-requires
suite_of-requires g c =
    let (looked, is, same) = subst (λ found. IfSome found (IsNumberOf c.look.new.seen c.loop-number.at.now))
    c.in-Ok-Some.field-0-is c.in-Ok-Some.ensures.number in
    slice_get_within c.look.new.seen c.in-Ok-Some.number looked is

pub returns-in-Err-clause-gives : goal.returns-in-Err-clause-gives
returns-in-Err-clause-gives g c = λ nodes is looks nested.
    climbs_refused c.args.word.now c.look.new.seen c.look.new.seen c.in-Err.fault
    (c.loop-number.invariant.climbs nodes is looks nested)
    (c.in-Err.ensures.gives nodes (c.loop-number.invariant.tree.nodes ∙ is))

pub returns-in-Some-clause-gives : goal.returns-in-Some-clause-gives
returns-in-Some-clause-gives g c = λ nodes is looks nested.
    climbs_to_suite (step_of c.look.new.seen c.in-Ok-Some.field-0 c.in-Ok-Some.number c.in-Ok-Some.field-0-is
    (c.loop-number.invariant.climbs nodes is looks nested)
    (c.in-Ok-Some.ensures.gives nodes (c.loop-number.invariant.tree.nodes ∙ is)) c.in-Ok-Some.ensures.number)
    c.args.word.now c.in-Some.root (sym c.in_ok-root.ensures.suite ∙ c.in-Some.is)

pub returns-in-Some-clause-above : goal.returns-in-Some-clause-above
returns-in-Some-clause-above g c =
    let (rest, is) = c.loop-number.invariant.inside in
    let number = subst (λ found. IfSome found (IsNumberOf c.look.new.seen c.loop-number.at.now)) c.in-Ok-Some.field-0-is
    c.in-Ok-Some.ensures.number in
    let here = subst (λ root. IfSome root (λ one. one.dir ≡ c.loop-number.at.now)) c.in-Some.is
    (c.in_ok-root.ensures.here c.loop-number.at.now number) in
    record { rest = rest; is = is ∙ ap (λ path. path ++ rest) (sym here); parts = c.requires.parts }

pub loop-number-preserved : goal.loop-number-preserved
loop-number-preserved g c =
    let above = c.in-Some-split_last.above.now in
    let part = c.in-Some-split_last.field-0-0.now in
    let split = c.in-Some-split_last.ensures.cases.0 in
    let (rest, inside) = c.loop-number.invariant.inside in
    record {
      parts = parts_above c.loop-number.at.now above part split c.loop-number.invariant.parts;
      inside = (part ∷ rest, lies_above c.args.dir.now c.loop-number.at.now above rest part inside split);
      climbs = λ nodes is looks nested.
          climbs_next (step_of c.look.new.seen c.in-Ok-Some.field-0 c.in-Ok-Some.number c.in-Ok-Some.field-0-is
          (c.loop-number.invariant.climbs nodes is looks nested)
          (c.in-Ok-Some.ensures.gives nodes (c.loop-number.invariant.tree.nodes ∙ is)) c.in-Ok-Some.ensures.number)
          above part (sym c.in_ok-root.ensures.suite ∙ c.in_default.is) split nested c.loop-number.invariant.parts;
      extends = extends_more c.args.seen.now c.loop-number.seen c.look.new.seen c.loop-number.invariant.extends
          c.in-Ok-Some.ensures.extends;
      tree = leaves_on c.loop-number.invariant.tree c.in-Ok-Some.ensures.tree;
    }

pub returns-in-None-clause-gives : goal.returns-in-None-clause-gives
returns-in-None-clause-gives g c = λ nodes is looks nested.
    climbs_to_root (step_of c.look.new.seen c.in-Ok-Some.field-0 c.in-Ok-Some.number c.in-Ok-Some.field-0-is
    (c.loop-number.invariant.climbs nodes is looks nested)
    (c.in-Ok-Some.ensures.gives nodes (c.loop-number.invariant.tree.nodes ∙ is)) c.in-Ok-Some.ensures.number)
    c.args.word.now c.in_ok-text_of-in-None.field-0 (sym c.in_ok-root.ensures.suite ∙ c.in_default.is)
    (no_parts c.loop-number.at.now c.in-None.ensures.cases) c.in_ok-text_of-in-None.ensures
