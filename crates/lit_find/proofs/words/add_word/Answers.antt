use Rattle.lit_find.proofs.Names.{◌∷◌, ◌++◌, [], Ok, IfSome, sym, ap, subst, ◌∙◌, Contains, GivesNearest, LiesIn, looked_up, IsLookedAt, path_order, put, IsCovered, IsWalk}
use Rattle.lit_look.proofs.SeenLemmas.{further, looks_of}
use Rattle.lit_find.proofs.WordLemmas.{walk_begins, word_refused, word_walked}
use Rattle.lit_find.proofs.words.add_word.Goals as goal

pub returns-in_ok-put-in-Ok-Some-clause-gives : goal.returns-in_ok-put-in-Ok-Some-clause-gives
returns-in_ok-put-in-Ok-Some-clause-gives g c = λ nodes words told nested is.
    let word = c.args.word.now in
    let walk = c.args.walk.now in
    let suite = c.in-Ok-Some.suite in
    let new = c.nearest.new.seen in
    let (kind, seen, near) = subst (λ found. GivesNearest nodes word word c.args.seen.now new (Ok found))
    c.in-Ok-Some.field-0-is (c.in-Ok-Some.ensures.gives nodes told (looks_of is.all) nested) in
    let lies = subst (λ found. IfSome found (λ root. LiesIn root.dir word)) c.in-Ok-Some.field-0-is
    c.in-Ok-Some.ensures.above in
    let waits = c.in_ok-put-in-Ok-Some.ensures
    ∙ ap (λ path. put path_order (record { path = path; suite = suite }) walk.pending) c.in_ok-key_of-in-Ok-Some.ensures in
    let begun = subst (λ places. IsWalk nodes (words ++ word ∷ []) word new new
    (record { found = walk.found; walked = walk.walked; taken = walk.taken; pending = places })) (sym waits)
    (walk_begins nodes words word c.args.seen.now new suite walk kind is lies seen c.in-Ok-Some.ensures.extends near is.done) in
    word_walked nodes words word new c.walk_all.new.seen c.walk_all.new.walk c.walk_all.result kind
    (λ none. let e = sym near ∙ none in cc)
    (further (IsLookedAt nodes words) (Contains (looked_up nodes word)) is.all seen) is.places c.walk_all.ensures.done
    (c.walk_all.ensures.gives nodes (words ++ word ∷ []) word new (c.in-Ok-Some.ensures.tree.nodes ∙ told) begun)

pub returns-in-Ok-None-clause-gives : goal.returns-in-Ok-None-clause-gives
returns-in-Ok-None-clause-gives g c = λ nodes words told nested is.
    let file = subst (λ found. GivesNearest nodes c.args.word.now c.args.word.now c.args.seen.now c.nearest.new.seen (Ok found))
    c.in-Ok-None.field-0-is (c.in-Ok-None.ensures.gives nodes told (looks_of is.all) nested) in
    c.add_file.ensures.gives nodes words (c.in-Ok-None.ensures.tree.nodes ∙ told) nested
    (subst (λ seen. IsCovered nodes words seen c.args.walk.now) (sym file.1) is) file.0

pub returns-in-Err-clause-gives : goal.returns-in-Err-clause-gives
returns-in-Err-clause-gives g c = λ nodes words told nested is.
    word_refused nodes words c.args.word.now c.args.seen.now c.nearest.new.seen c.nearest.new.seen c.args.walk.now
    c.args.walk.now c.in-Err.fault is (c.in-Err.ensures.gives nodes told (looks_of is.all) nested)
