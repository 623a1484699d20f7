use Rattle.std.proofs.Common.{◌≡◌, ◌<◌, ◌+◌, ◌-◌, ◌%◌, ◌++◌, ◌∙◌, suc, ap, arith, append-nil, eqb, length, length-set, sym, take}
use Rattle.std.specs.List.{range_with_len}
use Rattle.std.proofs.lemmas.List.Elements.{All-set}
use Rattle.check_lines.specs.Chunk.{bits, flagged}
use Rattle.check_lines.proofs.CanonLemmas.{flag_small, put_next}
use Rattle.check_lines.proofs.ChunkLemmas.{row_end, row_next}
use Rattle.check_lines.proofs.chunk.Row.of.Goals as goal

pub loop-place-preserved : goal.loop-place-preserved
loop-place-preserved c =
    let l = c.loop-place in
    let set = eqb (l.left % 2) 1 in
    let n = 8 - (l.place + 1) in
    let one : 8 - l.place ≡ suc n = omega (arith, c.loop-place-test.true) in
    let next = ap (λ m. flagged (bits m l.left) (range_with_len l.place m)) one ∙ row_next l.left l.place n in
    let within : l.count < length l.places = omega (arith, l.invariant.long, l.invariant.few, c.loop-place-test.true) in
    record {
      long = length-set _ _ _ ∙ l.invariant.long;
      few = omega (arith, l.invariant.few, flag_small set);
      small = All-set (λ place. place < 16) l.places l.count l.place (omega (arith, c.loop-place-test.true))
          l.invariant.small;
      same = put_next l.places l.count set l.place _ _ within
          (ap (λ rest. take l.count l.places ++ rest) (sym next) ∙ l.invariant.same);
    }

pub returns : goal.returns
returns c =
    let l = c.loop-place in
    let ends : 8 - l.place ≡ 0 = omega (arith, c.loop-place-test.false) in
    let none = ap (λ m. flagged (bits m l.left) (range_with_len l.place m)) ends
    ∙ row_end l.left (range_with_len l.place 0) in
    record {
      few = omega (arith, l.invariant.few, l.auto.place-end);
      long = l.invariant.long;
      small = l.invariant.small;
      places = sym (append-nil (take l.count l.places))
          ∙ ap (λ rest. take l.count l.places ++ rest) (sym none) ∙ l.invariant.same;
    }
