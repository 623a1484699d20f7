use Rattle.std.proofs.Common.{◌≡◌, ◌<◌, ◌≤◌, ◌∙◌, length, get_or, ap, sym, eqb, arith}
use Rattle.std.proofs.lemmas.List.{length-map}
use Rattle.std.proofs.lemmas.List.Elements.{All-same, All-replicate}
use Rattle.ere_auto.proofs.MarksLemmas.{stamped_none}
use Rattle.ere_auto.proofs.marks.Marks.clear.Goals as goal
use Rattle.ere_auto.proofs.marks.Marks.clear.Goals.{then-self, else-self}

pub returns : goal.returns
returns c =
    let len : length c.self.inside.stamps.items ≡ length c.args.self.now =
    sym (length-map c.self.inside.stamps.items (λ m. eqb m c.self.inside.stamp)) ∙ ap length c.self.view_is in
    elim c.if-self.branch [
      | then-self w ↦ rw w.self-inside-is
          (stamped_none _ _ _
          (All-same (λ m. m < 1) _ _ (w.fill.ensures.items (λ y h. h)) (All-replicate (λ m. m < 1) _ 0 (omega arith)))
          (omega (arith, w.fill.ensures.len, w.fill.new.self.ok.0, c.self.inside.stamps.ok.0)))
      | else-self w ↦
          rw w.self-inside-is
          (stamped_none _ _ _ (λ k d h. let le : get_or c.self.inside.stamps.items k d ≤ c.self.inside.stamp = c.self.invariant k d h in omega arith) len)
    ]
