use Rattle.std.proofs.Common.{◌≡◌, ◌+◌, ◌≤◌, false, length, ap, ◌∙◌, sym, inl, inr, arith, slice_index_or}
use Rattle.std.proofs.lemmas.Bool.{cases_lt}
use Rattle.std.proofs.lemmas.List.{length-replicate}
use Rattle.ere_auto.specs.Closure.{origin_in}
use Rattle.ere_auto.specs.Marks.{members}
use Rattle.ere_auto.proofs.ThreadsLemmas.{members_none}
use Rattle.ere_auto.proofs.SlotLemmas.{all_members}
use Rattle.ere_auto.proofs.slot.free_slot.Goals as goal

pub loop-thread-init : goal.loop-thread-init
loop-thread-init c = record {
  marked = λ x l. absurd (omega (arith, l));
  few = omega (arith, ap members c.clear.ensures, members_none (length c.args.slots.now));
  long = ap length c.clear.ensures ∙ length-replicate (length c.args.slots.now) false;
}

pub returns-clause-free : goal.returns-clause-free
returns-clause-free c = λ x l same.
    let flags = c.loop-thread.slots in
    let n = length c.args.threads.now in
    let i = c.loop-thread.invariant in
    let all : n + 1 ≤ members flags = all_members flags (n + 1) (omega (arith, i.long, c.requires.room)) (λ k m.
    elim (cases_lt k n) [
      | inl below ↦ c.loop-slot.invariant k (omega (arith, below))
      | inr last ↦
          let at : origin_in c.args.threads.now x ≡ k = omega (arith, same, last, m) in
          ap (λ q. slice_index_or flags q false) (sym at) ∙ i.marked x (omega (arith, l))
    ]) in
    omega (arith, all, i.few)
