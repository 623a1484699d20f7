use Rattle.std.proofs.Common.{sym, ◌∙◌, ap, inl, inr, ⊎_elim}
use Rattle.std.specs.Prelude.{nat_eq, ◌&&◌}
use Rattle.prefix_tree.specs.Turns.{next_of}
use Rattle.prefix_tree.proofs.TurnsLemmas.{only, stays, triple_parts}
use Rattle.prefix_tree.proofs.turns.Turns.go_on.Goals as goal

pub returns-in-Ok-clause-stay : goal.returns-in-Ok-clause-stay
returns-in-Ok-clause-stay c = λ from count one to was.
    stays (λ q. (nat_eq c.args.owner q.0 && nat_eq c.args.length q.1) && nat_eq c.args.byte q.2)
    (λ q. next_of c.args.self.now q.0 q.1 q.2)
    (λ q. next_of (record { next = c.insert.new.self; end = c.args.self.now.end }) q.0 q.1 q.2)
    c.args.new c.in-Ok.ensures.updates.0 (from, count, one) to
    (λ hit. let parts = triple_parts c.args.owner c.args.length c.args.byte from count one hit in
    ap (λ o. next_of c.args.self.now o count one) parts.0 ∙ ap (λ n. next_of c.args.self.now c.args.owner n one) parts.1
    ∙ ap (next_of c.args.self.now c.args.owner c.args.length) parts.2 ∙ sym c.next.ensures ∙ c.in-None.is)
    was

pub returns-in-Ok-clause-only : goal.returns-in-Ok-clause-only
returns-in-Ok-clause-only c = λ from count one to is.
    ⊎_elim (λ was. inl was)
    (λ new. let parts = triple_parts c.args.owner c.args.length c.args.byte from count one new.0 in
    inr (parts.0, parts.1, parts.2, new.1))
    (only (λ q. (nat_eq c.args.owner q.0 && nat_eq c.args.length q.1) && nat_eq c.args.byte q.2)
    (λ q. next_of c.args.self.now q.0 q.1 q.2)
    (λ q. next_of (record { next = c.insert.new.self; end = c.args.self.now.end }) q.0 q.1 q.2)
    c.args.new c.in-Ok.ensures.updates.0 (from, count, one) to is)
