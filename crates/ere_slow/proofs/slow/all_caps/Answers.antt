use Rattle.std.proofs.Common.{◌++◌, ◌∷◌, [], sym, ◌∙◌}
use Rattle.ere_slow.specs.WayView.{captures_of}
use Rattle.ere_tree.proofs.CapturesLemmas.{caps_of-more}
use Rattle.ere_slow.proofs.slow.all_caps.Goals as goal

pub loop-before-preserved : goal.loop-before-preserved
loop-before-preserved c =
    c.in_ok-push.ensures.items
    ∙ (λ n. c.loop-before.invariant n ++ c.cap.ensures n ∷ [])
    ∙ sym (caps_of-more c.args.start (captures_of c.args.captures.now) c.loop-before.before)
