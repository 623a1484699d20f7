use Rattle.std.proofs.Common.{◌≡◌, ◌≤◌, ◌+◌, ◌∙◌, arith, drop, length, length-drop, refl, sym, take}
use Rattle.check_lines.specs.Chunk.{kept_flags}
use Rattle.check_lines.proofs.CanonLemmas.{chunk_put}
use Rattle.check_lines.proofs.ChunkLemmas.{sixteen}
use Rattle.check_lines.proofs.canonical.canon_front.Goals as goal

pub loop-text-preserved : goal.loop-text-preserved
loop-text-preserved c =
    let l = c.loop-text in
    let strict = c.args.strict in
    let rest = drop l.at l.text in
    let flags = take 16 (kept_flags strict rest) in
    let long : length flags ≡ 16 =
    sixteen strict rest (omega (arith, length-drop l.at l.text, c.loop-text-test.true)) in
    let past : l.done + 16 ≤ l.at + 16 = omega (arith, l.invariant.below) in
    record {
      long = c.put-done.auto.text ∙ l.invariant.long;
      below = omega (arith, c.put-done.ensures.end, l.invariant.below);
      within = omega (arith, c.put-done.auto.text, c.loop-text-test.true);
      same = chunk_put strict l.text c.put-done.new.text c.shown_in-chunk.result flags l.done c.put-done.result l.at
          16 refl c.shown_in-chunk.ensures (c.put-done.ensures.front flags long (sym c.kept_in-kept.ensures.flags))
          (c.put-done.ensures.rest (l.at + 16) past) ∙ l.invariant.same;
    }
