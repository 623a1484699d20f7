use Rattle.std.proofs.Common.{◌<◌, ◌∙◌, false, not, eqb, length, ap, sym, arith}
use Rattle.std.proofs.lemmas.List.{get_or-map, length-map}
use Rattle.ere_auto.proofs.MarksLemmas.{stamped_set, inserted}
use Rattle.ere_auto.proofs.marks.Marks.insert.Goals as goal

pub returns : goal.returns
returns c =
    let marks = c.self.inside.stamps.items in
    let stamp = c.self.inside.stamp in
    let within : c.args.number < length marks = omega (arith, length-map marks (λ m. eqb m stamp), ap length c.self.view_is) in
    let all = inserted c.args.self.now _ c.args.number _ c.requires
    (rw (← c.self.view_is)
    (ap (λ m. not (eqb m stamp)) c.index.ensures
    ∙ ap not (sym (get_or-map (λ m. eqb m stamp) marks c.args.number c.index.result.now false within))))
    (rw (← c.self.view_is) (stamped_set marks stamp c.args.number)) in
    record { new = all.new; after = all.is; counted = all.counted; within = all.within; len = all.len }
