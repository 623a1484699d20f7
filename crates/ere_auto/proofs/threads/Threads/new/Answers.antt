use Rattle.std.proofs.Common.{◌≡◌, false, length, sym, ap, ◌∙◌, arith, slice_index_or}
use Rattle.std.proofs.lemmas.List.{length-replicate}
use Rattle.ere_auto.specs.Closure.{has_node}
use Rattle.ere_auto.specs.Marks.{members}
use Rattle.ere_auto.proofs.ThreadsLemmas.{none_marked, members_none}
use Rattle.ere_auto.proofs.threads.Threads.new.Goals as goal

pub invariant_of-result : goal.invariant_of-result
invariant_of-result c =
    let n = c.args.nodes in
    let e = c.in_ok-marks.ensures in
    let long : length c.in_ok-marks.marks ≡ n = ap length e ∙ length-replicate n false in
    let none : members c.in_ok-marks.marks ≡ 0 = ap members e ∙ members_none n in
    record {
      room = omega (arith, long, c.in_ok-held.ensures.exact);
      counted = omega (arith, none, c.in_ok-held.ensures.len);
      fits = omega (arith, c.in_ok-held.ensures.len);
      listed = λ q.
          ap (λ m. slice_index_or m q false) e ∙ none_marked n q ∙ sym (ap (λ k. has_node k q) c.in_ok-held.ensures.items);
      within = λ x l. absurd (omega (arith, l, ap length c.in_ok-held.ensures.items));
    }
