use Rattle.std.proofs.Common.{rules}
use Rattle.std.proofs.lemmas.List.Sorted.{IsNonDecreasingBy-from_sort_by_key, answers_always}
use Rattle.input_dump.proofs.OrderLemmas.{in_order}
use Rattle.input_dump.proofs.order.by_offset.Goals as goal

pub returns : goal.returns
returns c =
    let sort = c.in_ok-sort_by_key.ensures in
    let keys = answers_always _ _ _ (λ f a r next called. search rules) in
    let are = in_order c.args.size c.args.marks.now c.in_ok-order.order.items c.sort_by_key.new.self.items c.in_ok-order.ensures c.requires
    sort.permutation
    (IsNonDecreasingBy-from_sort_by_key (λ mark. mark.now.at) _ sort.sorted (λ a r q k. search rules))
    (sort.stable (λ mark. mark.now.at) keys) in
    record { exact = are.exact; within = are.within; ascending = are.ascending }
