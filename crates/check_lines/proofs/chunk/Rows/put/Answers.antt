use Rattle.std.proofs.Common.{◌≡◌, ◌<◌, ◌+◌, ◌/◌, ◌%◌, ◌^◌, ◌++◌, ◌∙◌, true, ap, append_assoc, arith, drop, length, length-drop, replicate, subst, sym, take, take_all}
use Rattle.std.specs.List.{range_with_len}
use Rattle.std.specs.Simd.Lanes.{mask_l, pick_l}
use Rattle.std.proofs.lemmas.List.{length-take}
use Rattle.std.proofs.lemmas.Simd.{mask_l-lt, pick_l_left, pick_l-range_with_len}
use Rattle.check_lines.specs.Chunk.{flagged}
use Rattle.check_lines.proofs.CanonLemmas.{flagged_all}
use Rattle.check_lines.proofs.ChunkLemmas.{flagged_split, mask_full, mask_halves}
use Rattle.check_lines.proofs.chunk.Rows.put.Goals as goal

pub returns-then-kept-eq65535-clause-front : goal.returns-then-kept-eq65535-clause-front
returns-then-kept-eq65535-clause-front c = λ flags long is.
    let full : mask_l flags + 1 ≡ 2 ^ length flags =
    subst (λ n. mask_l flags + 1 ≡ 2 ^ n) (sym long) (omega (arith, is, c.if-kept-eq65535.true)) in
    let all : flags ≡ replicate 16 true = mask_full flags full ∙ ap (λ n. replicate n true) long in
    c.put_all.ensures.front
    ∙ ap (λ l. take c.args.done c.args.text.now ++ l)
    (sym (ap (λ f. flagged f c.args.chunk) all ∙ flagged_all 16 c.args.chunk c.fits-chunk.0))

pub returns-else-kept-eq65535-clause-front : goal.returns-else-kept-eq65535-clause-front
returns-else-kept-eq65535-clause-front c = λ flags long is.
    let few : length (take 8 flags) ≡ 8 = omega (arith, length-take 8 flags, long) in
    let rest : length (drop 8 flags) ≡ 8 = omega (arith, length-drop 8 flags, long) in
    let small : mask_l (take 8 flags) < 2 ^ 8 =
    subst (λ n. mask_l (take 8 flags) < 2 ^ n) few (mask_l-lt (take 8 flags)) in
    let halves = mask_halves flags long in
    let low : mask_l (take 8 flags) ≡ c.args.kept % 256 = omega (arith, halves, small, is) in
    let high : mask_l (drop 8 flags) ≡ c.args.kept / 256 = omega (arith, halves, small, is) in
    let chunk = c.args.chunk in
    let sixteen = c.fits-chunk.0 in
    let turned : pick_l 0 (chunk ++ chunk) (range_with_len 8 8) ≡ drop 8 chunk =
    pick_l_left 0 chunk chunk 16 (range_with_len 8 8) sixteen tt
    ∙ pick_l-range_with_len 0 chunk 8 8 (omega (arith, sixteen))
    ∙ take_all 8 (drop 8 chunk) (omega (arith, sixteen, length-drop 8 chunk)) in
    let front = take c.args.done c.args.text.now in
    c.put.ensures.front (drop 8 flags) rest
    (rw high (c.requires.rows (c.args.kept / 256) (omega (arith, c.requires.small)) _))
    ∙ (λ i. c.put-half.ensures.front (take 8 flags) few (rw low (c.requires.rows (c.args.kept % 256) (omega arith) _)) i
    ++ flagged (drop 8 flags) (turned i))
    ∙ append_assoc front (flagged (take 8 flags) (take 8 chunk)) (flagged (drop 8 flags) (drop 8 chunk))
    ∙ ap (λ l. front ++ l) (sym (flagged_split 8 flags chunk))
