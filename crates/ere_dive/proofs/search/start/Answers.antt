use Rattle.std.proofs.Common.{refl}
use Rattle.ere_tree.specs.View.{view}
use Rattle.ere_dive.specs.Dive.{Does}
use Rattle.ere_dive.specs.declared.task.State.{State}
use Rattle.ere_dive.specs.declared.task.What.TheVariants.{Match}
use Rattle.ere_dive.proofs.DiveLemmas.{begins, pushed_last}
use Rattle.ere_dive.proofs.search.start.Goals as goal

pub returns : goal.returns
returns c =
    let site = c.args.site in
    let first : State = record { tasks = c.new.result; place = site.low; held = c.new-2.result } in
    pushed_last site (Does site.text.now (view site.whole.now)) (Match site.whole) first c.push.new.self
    c.in_ok-push.ensures (λ q d e does. does)
    (begins site first c.new.ensures.items c.new-2.ensures.items refl c.requires.fits.0)
