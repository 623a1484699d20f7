use Rattle.std.proofs.Common.{◌+◌, ℕ, List, Vec, Global, length, ap, ◌∙◌, subst, arith}
use Rattle.std.proofs.lemmas.List.{length_push}
use Rattle.ere_reach.specs.Live.{IsLast}
use Rattle.ere_reach.proofs.LiveLemmas.{last_more}
use Rattle.ere_reach.proofs.live.lives_from.Goals as goal

pub loop-count-init : goal.loop-count-init
loop-count-init c = record {
  count = ap length c.in_ok-lives.ensures.items;
  read = λ k one low. absurd (omega (arith, low));
}

pub loop-count-preserved : goal.loop-count-preserved
loop-count-preserved c =
    let old = c.loop-count.lives.items in
    let count = c.loop-count.count in
    let first = c.in_ok-before.before in
    let later = c.live_of.result.now in
    let was : IsLast c.args.behind.now old count later =
    subst (λ (vs : List (Vec ℕ Global)). IsLast c.args.behind.now vs count later) c.as_slice.ensures.value
    (c.live_of.ensures.none, c.live_of.ensures.some) in
    record {
      count = ap length c.in_ok-push.ensures.items ∙ length_push old first
          ∙ ap (λ n. n + 1) c.loop-count.invariant.count;
      read = last_more c.args.all.now c.args.behind.now old c.push.new.self.items later first count c.index-all-all.result
          c.in_ok-push.ensures.items c.loop-count.invariant.count c.loop-count-test.true was c.index-all-all.is
          c.in_ok-before.ensures c.loop-count.invariant.read;
    }
