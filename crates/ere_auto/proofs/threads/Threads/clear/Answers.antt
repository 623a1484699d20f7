use Rattle.std.proofs.Common.{◌≡◌, false, length, sym, ap, ◌∙◌, arith, slice_index_or}
use Rattle.std.proofs.lemmas.List.{length-replicate}
use Rattle.ere_auto.specs.Closure.{has_node}
use Rattle.ere_auto.specs.Marks.{members}
use Rattle.ere_auto.proofs.ThreadsLemmas.{none_marked, members_none}
use Rattle.ere_auto.proofs.threads.Threads.clear.Goals as goal

pub invariant_of-self : goal.invariant_of-self
invariant_of-self c =
    let n = length c.args.self.now.marks in
    let e = c.clear-2.ensures in
    let long : length c.clear-2.new.self ≡ n = ap length e ∙ length-replicate n false in
    let none : members c.clear-2.new.self ≡ 0 = ap members e ∙ members_none n in
    record {
      room = omega (arith, long, c.clear.ensures.capacity, c.args.self.now.room);
      counted = omega (arith, none, c.clear.ensures.len);
      fits = omega (arith, c.clear.ensures.len);
      listed = λ q.
          ap (λ m. slice_index_or m q false) e ∙ none_marked n q ∙ sym (ap (λ k. has_node k q) c.clear.ensures.items);
      within = λ x l. absurd (omega (arith, l, ap length c.clear.ensures.items));
    }
