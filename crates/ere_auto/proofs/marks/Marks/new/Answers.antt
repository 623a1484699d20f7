use Rattle.std.proofs.Common.{◌≡◌, ◌<◌, replicate, arith, rules}
use Rattle.std.proofs.lemmas.List.Elements.{All-same, All-replicate}
use Rattle.ere_auto.proofs.MarksLemmas.{stamped_none}
use Rattle.ere_auto.proofs.marks.Marks.new.Goals as goal

pub returns : goal.returns
returns c =
    let zeros : c.in_ok-stamps.stamps.items ≡ replicate c.args.bound 0 = c.in_ok-stamps.ensures.items_if_clones_equal (λ y h. h) in
    stamped_none c.in_ok-stamps.stamps.items 1 c.args.bound
    (All-same (λ m. m < 1) _ _ zeros (All-replicate (λ m. m < 1) c.args.bound 0 (omega arith))) (search rules)
