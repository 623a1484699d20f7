use Rattle.std.proofs.Common.{sym, ◌∙◌, ap, inl, inr, ⊎_elim}
use Rattle.std.specs.Prelude.{nat_eq, ◌&&◌}
use Rattle.prefix_tree.specs.Turns.{end_of}
use Rattle.prefix_tree.proofs.TurnsLemmas.{only, pair_parts, stays}
use Rattle.prefix_tree.proofs.turns.Turns.end_at.Goals as goal

pub returns-in-Ok-clause-stay : goal.returns-in-Ok-clause-stay
returns-in-Ok-clause-stay c = λ from count to was.
    stays (λ q. nat_eq c.args.owner q.0 && nat_eq c.args.length q.1) (λ q. end_of c.args.self.now q.0 q.1)
    (λ q. end_of (record { next = c.args.self.now.next; end = c.insert.new.self }) q.0 q.1)
    c.args.new c.in-Ok.ensures.updates.0 (from, count) to
    (λ hit. let parts = pair_parts c.args.owner c.args.length from count hit in
    ap (λ o. end_of c.args.self.now o count) parts.0 ∙ ap (end_of c.args.self.now c.args.owner) parts.1
    ∙ sym c.end.ensures ∙ c.in-None.is)
    was

pub returns-in-Ok-clause-only : goal.returns-in-Ok-clause-only
returns-in-Ok-clause-only c = λ from count to is.
    ⊎_elim (λ was. inl was)
    (λ new. let parts = pair_parts c.args.owner c.args.length from count new.0 in inr (parts.0, parts.1, new.1))
    (only (λ q. nat_eq c.args.owner q.0 && nat_eq c.args.length q.1) (λ q. end_of c.args.self.now q.0 q.1)
    (λ q. end_of (record { next = c.args.self.now.next; end = c.insert.new.self }) q.0 q.1)
    c.args.new c.in-Ok.ensures.updates.0 (from, count) to is)
