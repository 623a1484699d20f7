use Rattle.std.proofs.Common.{◌<◌, ℕ, subst, arith}
use Rattle.ere_tree.specs.Captures.{Captures}
use Rattle.ere_tree.specs.Tree.{repeat}
use Rattle.ere_tree.specs.View.{view}
use Rattle.ere_dive.specs.Dive.{Does}
use Rattle.ere_dive.specs.declared.task.What.TheVariants.{Beyond, Match, Members}
use Rattle.ere_dive.proofs.DiveLemmas.{beyond, copied, member_first, no_more, pushed, pushed_last}
use Rattle.ere_dive.proofs.open.open_members.Goals as goal

pub returns-in_default : goal.returns-in_default
returns-in_default c =
    no_more c.args.site (view c.args.inner.now) c.args.least c.args.most c.args.state c.requires.fits c.if-least-gt0.false
    c.requires.leads

pub returns-then-least-gt0-2 : goal.returns-then-least-gt0-2
returns-then-least-gt0-2 c =
    let a = c.args in
    let s = a.site.text.now in
    let t = view a.inner.now in
    let fewer = c.in-Some.fewer in
    let p = a.state.place in
    pushed_last a.site (Does s t) (Match a.inner) c.push.new.self c.push-then-least-gt0-2.new.self
    c.in_ok-push-2.ensures (λ q d e does. does)
    (pushed a.site (Does s t) (Does s (repeat t a.least a.most)) (Members a.inner c.saturating_sub.result fewer) a.state
    c.push.new.self c.in_ok-push.ensures
    (λ q d e both. member_first s t a.least a.most fewer p both.0 q d both.1 e c.in-Some.ensures both.2
    (λ none. absurd (omega (arith, none, c.if-least-gt0-2.true)))
    (subst (λ n. Does s (repeat t n fewer) both.0 q both.1 e) c.saturating_sub.ensures both.3)) c.requires.leads)

pub returns : goal.returns
returns c =
    let a = c.args in
    let s = a.site.text.now in
    let t = view a.inner.now in
    let fewer = c.in-Some.fewer in
    let p = a.state.place in
    let whole = Does s (repeat t a.least a.most) in
    let past = λ (i j : ℕ) (d e : Captures). Does s t i j d e × (p < j) in (
      pushed_last a.site (Does s t) (Match a.inner) c.push-2.new.self c.push-3.new.self c.in_ok-push-4.ensures
          (λ q d e does. does)
          (pushed a.site (Does s t) past (Beyond p) c.push.new.self c.push-2.new.self c.in_ok-push-3.ensures
          (λ q d e both. beyond s t p c.push.new.self.place q d e both)
          (pushed a.site past whole (Members a.inner c.saturating_sub.result fewer) a.state c.push.new.self
          c.in_ok-push.ensures
          (λ q d e both. member_first s t a.least a.most fewer p both.0 q d both.1 e c.in-Some.ensures both.2.0
          (λ none. both.2.1)
          (subst (λ n. Does s (repeat t n fewer) both.0 q both.1 e) c.saturating_sub.ensures both.3)) c.requires.leads)),
      no_more a.site t a.least a.most c.in_ok-ended.ended c.requires.fits c.if-least-gt0-2.false
          (copied a.site whole a.state c.in_ok-ended.ended c.in_ok-ended.ensures c.requires.leads),
    )
