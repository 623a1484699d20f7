use Rattle.std.proofs.Common.{◌≤◌, ◌<◌, ◌++◌, ◌∙◌, ap, arith, append-nil, length, length-set, sym, take}
use Rattle.check_lines.proofs.CanonLemmas.{flag_small, canon_end, canon_next}
use Rattle.check_lines.proofs.canonical.put_rest.Goals as goal

pub loop-k-preserved : goal.loop-k-preserved
loop-k-preserved c =
    let within : c.loop-k.k < length c.loop-k.text = omega (arith, c.loop-k.invariant.long, c.loop-k-test.true) in
    record {
      long = length-set _ _ _ ∙ c.loop-k.invariant.long;
      below = omega (arith, c.loop-k.invariant.below, flag_small c.is_kept-kept.result);
      same = canon_next c.args.strict c.loop-k.text c.loop-k.to c.loop-k.k c.is_kept-kept.result c.shown.result _ within
          c.loop-k.invariant.below (rw (sym c.byte_at.ensures) c.is_kept-kept.ensures) c.shown.ensures
          c.loop-k.invariant.same;
    }

pub returns : goal.returns
returns c =
    let ends : length c.loop-k.text ≤ c.loop-k.k = omega (arith, c.loop-k.invariant.long, c.loop-k-test.false) in
    sym (append-nil (take c.loop-k.to c.loop-k.text))
    ∙ ap (λ l. take c.loop-k.to c.loop-k.text ++ l) (sym (canon_end c.args.strict c.loop-k.text c.loop-k.k ends))
    ∙ c.loop-k.invariant.same
