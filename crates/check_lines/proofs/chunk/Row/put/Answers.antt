use Rattle.std.proofs.Common.{◌≡◌, ◌<◌, ◌++◌, ◌∙◌, arith, ap, length, refl, rules, take, w8}
use Rattle.std.specs.List.{range_with_len}
use Rattle.std.specs.Simd.Lanes.{pick_l}
use Rattle.std.proofs.lemmas.List.{take-take}
use Rattle.std.proofs.lemmas.Simd.{swz_l, length-swz_l, SwzOk-from_below, Each1-from_get_or, pick_l_left, pick_l-range_with_len}
use Rattle.check_lines.proofs.ChunkLemmas.{front_taken, picked}
use Rattle.check_lines.proofs.chunk.Row.put.Goals as goal

pub swizzle-picked : goal.swizzle-picked
swizzle-picked c =
    let row = c.requires.row.1 in
    let places = c.args.self.now.places in
    SwzOk-from_below w8 16 1 16 0 places refl (omega (arith, row.long))
    (Each1-from_get_or (λ place. place < 16) places 0 (λ k less. row.small k 0 less))

pub overflow_add-result : goal.overflow_add-result
overflow_add-result c = search (rules, c.requires.row.1.few)

pub returns-clause-end : goal.returns-clause-end
returns-clause-end c = omega (arith, c.requires.row.1.few)

pub returns-clause-front : goal.returns-clause-front
returns-clause-front c = λ flags eight row.
    let chunk = c.args.chunk in
    let places = c.args.self.now.places in
    let count = c.args.self.now.count in
    let shuffled = swz_l w8 16 chunk 0 places in
    let long : length shuffled ≡ 16 = omega (arith, length-swz_l w8 16 chunk 0 places, row.long) in
    let first : pick_l 0 (shuffled ++ shuffled) (range_with_len 0 8) ≡ take 8 shuffled =
    pick_l_left 0 shuffled shuffled 16 (range_with_len 0 8) long tt
    ∙ pick_l-range_with_len 0 shuffled 0 8 (omega (arith, long)) in
    front_taken c.args.text.now c.put_all.new.text _ c.args.done 8 count (omega (arith, c.requires.room)) row.few
    c.put_all.ensures.front
    ∙ ap (λ l. take c.args.done c.args.text.now ++ l)
    (ap (take count) first ∙ take-take count 8 shuffled row.few
    ∙ picked chunk places count flags eight (omega (arith, c.fits-chunk.0)) (omega (arith, row.long)) row.small
    row.places)
