use Rattle.std.proofs.Common.{◌≡◌, ℕ, ◌<◌, ◌+◌, ◌^◌, ◌∙◌, ap, arith, bit_and, bit_or, drop, eqb, length, length-drop, map, subst, sym, take, w8}
use Rattle.std.specs.Simd.Lanes.{mask_l, zip2}
use Rattle.std.proofs.lemmas.List.{drop-drop, length-map}
use Rattle.std.proofs.lemmas.Simd.{bitmask_splat, mask_l-lt}
use Rattle.check_lines.specs.Chunk.{kept_flags, lane}
use Rattle.check_lines.proofs.ChunkLemmas.{lanes_are_flags, sixteen}
use Rattle.check_lines.specs.Canonical.{is_blank}
use Rattle.check_lines.proofs.chunk.kept_in.Goals as goal

pub returns-clause-flags : goal.returns-clause-flags
returns-clause-flags c =
    let text = c.args.text.now in
    let xs = drop c.args.at text in
    let long : 16 < length xs = omega (arith, length-drop c.args.at text, c.requires) in
    let further : (f : ℕ → ℕ) → map f (take 16 (drop (c.args.at + 1) text)) ≡ map f (take 16 (drop 1 xs)) =
    λ f. ap (λ l. map f (take 16 l)) (sym (drop-drop 1 c.args.at text)) in
    let dropped = zip2 bit_or (zip2 bit_and c.equal_to.result c.equal_to-2.result)
    (zip2 bit_and c.joined.result c.blanks.result) in
    let are : map (λ x. eqb x 0) dropped ≡ take 16 (kept_flags c.args.strict xs) =
    (λ i. map (λ x. eqb x 0) (zip2 bit_or
    (zip2 bit_and (c.equal_to.ensures i) ((c.equal_to-2.ensures ∙ further (λ b. lane (eqb b 10))) i))
    (zip2 bit_and (c.joined.ensures i) ((c.blanks.ensures ∙ further (λ b. lane (is_blank b))) i))))
    ∙ lanes_are_flags c.args.strict 16 xs long in
    let counts : length dropped ≡ 16 =
    omega (arith, length-map dropped (λ x. eqb x 0), ap length are, sixteen c.args.strict xs long) in
    bitmask_splat w8 eqb dropped 16 0 counts (omega arith) ∙ ap mask_l are

pub returns-clause-small : goal.returns-clause-small
returns-clause-small c =
    let xs = drop c.args.at c.args.text.now in
    let flags = take 16 (kept_flags c.args.strict xs) in
    let long : 16 < length xs = omega (arith, length-drop c.args.at c.args.text.now, c.requires) in
    let small : mask_l flags < 2 ^ 16 =
    subst (λ n. mask_l flags < 2 ^ n) (sixteen c.args.strict xs long) (mask_l-lt flags) in
    omega (arith, returns-clause-flags c, small)
