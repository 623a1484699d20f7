use Rattle.std.proofs.Common.{arith, ◌+◌, ◌≡◌, ◌∙◌, length, sym, ap}
use Rattle.std.proofs.lemmas.List.{length-take}
use Rattle.lit_pool.proofs.RunLemmas.{last_at}
use Rattle.lit_pool.proofs.rounds.stop_at.Goals as goal

pub returns : goal.returns
returns c =
    let place = c.args.first + c.args.refusal.taken in
    let items = c.args.trials.items in
    let cut = c.truncate.ensures.items in
    let long = ap length cut ∙ length-take (place + 1) items in
    let rest = ap length c.pop-other.ensures.rest ∙ length-take _ c.truncate.new.self.items in
    let stays : length c.pop-other.new.self.items ≡ place = (let ok = c.truncate.new.self.ok.0 in omega (arith, c.requires.within)) in
    let last = last_at items c.pop-other.new.self.items place c.pop-other.result stays c.requires.within
    (sym c.pop-other.ensures.items ∙ cut) in
    c.stop.ensures ∙ (λ i. record { why = c.why_of.ensures i; trials = last.0 i; other = last.1 i })
