use Rattle.std.proofs.Common.{Some, None, sym, ap, ◌∙◌}
use Rattle.ere_tree.specs.Derivation.{part}
use Rattle.ere_refs.proofs.HeldLemmas.{at_held, set_to, unset}
use Rattle.ere_refs.proofs.held.text_held.Goals as goal

pub returns-in-None : goal.returns-in-None
returns-in-None c = λ d is.
    unset c.args.start d c.args.number
    (at_held c.args.start d c.args.number c.args.caps.now _ None c.requires.some c.requires.room is c.in-None.is)

pub returns-in-Some : goal.returns-in-Some
returns-in-Some c = λ d is.
    let s = c.args.text.now in
    let b = set_to c.args.start d c.args.number c.in-Some.cap
    (at_held c.args.start d c.args.number c.args.caps.now _ (Some c.in-Some.cap) c.requires.some c.requires.room is
    c.in-Some.is) in (
      b.0,
      b.1,
      c.part_of.ensures
          ∙ ap (λ n. part s n c.saturating_sub-in-Some.result) (c.saturating_sub.ensures ∙ sym b.2)
          ∙ ap (part s b.0.0) (c.saturating_sub-in-Some.ensures ∙ sym b.3),
    )
