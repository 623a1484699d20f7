use Rattle.std.proofs.Common.{◌≡◌, ◌+◌, ◌-◌, ◌∙◌, drop, length, take, take_all, length-drop, ap, sym, arith}
use Rattle.std.proofs.Math.Seq.{take-add}
use Rattle.std.proofs.lemmas.List.{take-append-drop}
use Rattle.std.specs.List.{count_by}
use Rattle.byte_counts.specs.Counts.{is_byte}
use Rattle.byte_counts.proofs.CountLemmas.{count-append, count_at_most}
use Rattle.byte_counts.proofs.counting.count_of.Goals as goal

pub loop-at-preserved : goal.loop-at-preserved
loop-at-preserved c =
    let text = c.args.text.now in
    let byte = c.args.byte in
    let at = c.loop-at.at in
    let more : count_by (is_byte byte) (take (at + 64) text) ≡ count_by (is_byte byte) (take at text) + count_by (is_byte byte) (take 64 (drop at text)) =
    ap (count_by (is_byte byte)) (take-add at 64 text) ∙ count-append byte (take at text) (take 64 (drop at text)) in
    record {
      within = omega (arith, c.loop-at-test.true);
      counted = omega (arith, more, c.loop-at.invariant.counted, c.count_in-count.ensures.value);
      few = omega (arith, c.loop-at.invariant.few, c.count_in-count.ensures.few);
    }

pub returns-clause-value : goal.returns-clause-value
returns-clause-value c =
    let text = c.args.text.now in
    let byte = c.args.byte in
    let at = c.loop-at.at in
    let rest : take (length text - at) (drop at text) ≡ drop at text =
    take_all (length text - at) (drop at text) (omega (arith, length-drop at text)) in
    let whole : count_by (is_byte byte) text ≡ count_by (is_byte byte) (take at text) + count_by (is_byte byte) (drop at text) =
    ap (count_by (is_byte byte)) (sym (take-append-drop at text)) ∙ count-append byte (take at text) (drop at text) in
    omega (arith, whole, c.loop-at.invariant.counted, c.rest_of.ensures.value ∙ ap (count_by (is_byte byte)) rest)

pub returns-clause-within : goal.returns-clause-within
returns-clause-within c = omega (arith, returns-clause-value c, count_at_most c.args.byte c.args.text.now)
