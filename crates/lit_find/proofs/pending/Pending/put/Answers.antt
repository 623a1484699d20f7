use Rattle.lit_find.proofs.Names.{map, ap, ◌∙◌, path_order, place_of_entry, put}
use Rattle.lit_find.proofs.KeyLemmas.{inserted}
use Rattle.lit_find.proofs.PlaceLemmas.{put_inside}
use Rattle.lit_find.proofs.pending.Pending.put.Goals as goal

pub invariant_of-self : goal.invariant_of-self
invariant_of-self c =
    put_inside c.self.inside.held.entries c.insert.new.self.entries c.args.key c.args.suite c.insert.result
    c.insert.ensures.entries c.insert.ensures.err c.requires c.self.invariant

pub invariant_of-self-2 : goal.invariant_of-self-2
invariant_of-self-2 c =
    put_inside c.self.inside.held.entries c.insert.new.self.entries c.args.key c.args.suite c.insert.result
    c.insert.ensures.entries c.insert.ensures.err c.requires c.self.invariant

pub returns-in-Ok : goal.returns-in-Ok
returns-in-Ok c =
    ap (map place_of_entry) c.in-Ok.ensures.entries ∙ inserted c.self.inside.held.entries c.args.key c.args.suite
    ∙ ap (put path_order (place_of_entry (c.args.key, c.args.suite))) c.self.view_is
