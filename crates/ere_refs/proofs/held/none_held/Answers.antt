use Rattle.std.proofs.Common.{◌≡◌, ◌+◌, ◌++◌, ◌∷◌, [], None, List, Option, sym, ap, ◌∙◌, arith}
use Rattle.std.specs.FinMap.{empty}
use Rattle.ere_tree.specs.Captures.{caps_of}
use Rattle.ere_tree.specs.declared.hit.Cap.{Cap}
use Rattle.ere_tree.proofs.CapturesLemmas.{caps_of-more}
use Rattle.ere_refs.proofs.HeldLemmas.{nothing_held}
use Rattle.ere_refs.proofs.held.none_held.Goals as goal

pub loop-preserved : goal.loop-preserved
loop-preserved c = λ start.
    c.in_ok-push.ensures.items
    ∙ ap (λ (xs : List (Option Cap)). xs ++ None ∷ []) (c.loop.invariant start)
    ∙ ap (λ (one : Option Cap). caps_of start empty c.loop.counter ++ one ∷ [])
    (sym (nothing_held start (c.loop.counter + 1)))
    ∙ sym (caps_of-more start empty c.loop.counter)

pub returns : goal.returns
returns c = λ start.
    c.loop.invariant start
    ∙ ap (caps_of start empty)
    (let over : c.loop.counter ≡ c.args.groups = omega (arith, c.loop-test.false, c.loop.auto.counter-end) in over)
