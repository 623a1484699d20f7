-- A word that is a file: its test is found, or a directory up to its suite is refused.
-- By what the call for the nearest suite gave, over the nodes that the tree tells, where it tells them.
-- The long goal is `returns-in_ok-put-in-Ok-Some-clause-gives`.
use Rattle.lit_find.proofs.Names.{[], ◌∷◌, ◌++◌, sym, ap, subst, ◌∙◌, Ok, IfSome, list_all, is_part, text_of, GivesNearest, LiesIn, test_in, IsCovered}
use Rattle.lit_look.proofs.SeenLemmas.{looks_of}
use Rattle.lit_find.proofs.FileLemmas.{filed}
use Rattle.lit_find.proofs.PathLemmas.{last_part, parts_left}
use Rattle.lit_find.proofs.WordLemmas.{apart, dir_is_dir, file_added, file_refused, root_file}
use Rattle.lit_find.proofs.words.add_file.Goals as goal

pub nearest-requires : goal.nearest-requires
nearest-requires g c = record {
  parts = parts_left c.in-Some.dir.now (c.in-Some.field-0-0.now ∷ [])
      (ap (list_all is_part) (sym c.in-Some.ensures.cases.0) ∙ c.requires.parts);
}

pub put-requires : goal.put-requires
put-requires g c =
    let split = c.in-Some.ensures.cases.0 in
    let dir = c.in-Some.dir.now in
    let part = c.in-Some.field-0-0.now in
    filed c.in-Ok-Some.suite dir part c.in_ok-path.path
    (subst (λ found. IfSome found (λ root. LiesIn root.dir dir)) c.in-Ok-Some.field-0-is c.in-Ok-Some.ensures.above)
    (last_part dir part (ap (list_all is_part) (sym split) ∙ c.requires.parts)) (c.in_ok-path.ensures ∙ ap text_of split)

pub returns-in_ok-put-in-Ok-Some-clause-gives : goal.returns-in_ok-put-in-Ok-Some-clause-gives
returns-in_ok-put-in-Ok-Some-clause-gives g c = λ nodes words told nested is kind.
    let word = c.args.word.now in
    let walk = c.args.walk.now in
    let root = c.in-Ok-Some.suite in
    let dir = c.in-Some.dir.now in
    let (up, seen, near) = subst (λ found. GivesNearest nodes dir word c.args.seen.now c.nearest.new.seen (Ok found))
    c.in-Ok-Some.field-0-is (c.in-Ok-Some.ensures.gives nodes told (looks_of is.all) nested) in
    let lies = subst (λ found. IfSome found (λ root. LiesIn root.dir dir)) c.in-Ok-Some.field-0-is
    c.in-Ok-Some.ensures.above in
    let found = c.in_ok-put-in-Ok-Some.ensures
    ∙ ap (λ text. walk.found ++ test_in (record { path = text; suite = root }) ∷ []) c.in_ok-path.ensures in
    subst (λ tests. IsCovered nodes (words ++ word ∷ []) c.nearest.new.seen
    (record { found = tests; walked = walk.walked; taken = walk.taken; pending = walk.pending })) (sym found)
    (file_added nodes words word dir c.in-Some.field-0-0.now c.args.seen.now c.nearest.new.seen root walk
    c.in-Some.ensures.cases.0 c.requires.parts kind is lies seen c.in-Ok-Some.ensures.extends near)

pub returns-in_ok-text_of-in-Ok-None-clause-gives : goal.returns-in_ok-text_of-in-Ok-None-clause-gives
returns-in_ok-text_of-in-Ok-None-clause-gives g c = λ nodes words told nested is kind.
    let word = c.args.word.now in
    let dir = c.in-Some.dir.now in
    let file = subst (λ found. GivesNearest nodes dir word c.args.seen.now c.nearest.new.seen (Ok found))
    c.in-Ok-None.field-0-is (c.in-Ok-None.ensures.gives nodes told (looks_of is.all) nested) in
    absurd (apart nodes dir file.0 (dir_is_dir nodes word dir c.in-Some.field-0-0.now
    c.in-Some.ensures.cases.0 nested c.requires.parts kind))

pub returns-in-Err-clause-gives : goal.returns-in-Err-clause-gives
returns-in-Err-clause-gives g c = λ nodes words told nested is kind.
    let word = c.args.word.now in
    let dir = c.in-Some.dir.now in
    let part = c.in-Some.field-0-0.now in
    let split = c.in-Some.ensures.cases.0 in
    file_refused nodes words word dir part c.args.seen.now c.nearest.new.seen c.nearest.new.seen c.args.walk.now
    c.args.walk.now c.in-Err.fault split kind (dir_is_dir nodes word dir part split nested c.requires.parts kind) is
    (c.in-Err.ensures.gives nodes told (looks_of is.all) nested)

pub returns-in-None-clause-gives : goal.returns-in-None-clause-gives
returns-in-None-clause-gives g c = λ nodes words told nested is kind.
    root_file nodes words c.args.word.now c.in_ok-path.path c.in-None.ensures.cases kind c.in_ok-path.ensures
