use Rattle.std.proofs.Common.{◌≡◌, ◌+◌, rules, refl, sym, ap, subst, arith, List}
use Rattle.lit_paths.specs.Paths.{text_of}
use Rattle.lit_look.specs.Seen.{Has, count_items}
use Rattle.lit_look.specs.declared.seen.Looked.{Looked}
use Rattle.lit_look.proofs.IndexLemmas.{one_more}
use Rattle.lit_look.proofs.seen.SeenFolders.add.Goals as goal

pub invariant_of-self-in-Ok : goal.invariant_of-self-in-Ok
invariant_of-self-in-Ok c =
    let fields = c.self.inside in
    let N = λ (xs : List Looked). ¬ (Has xs c.args.looked.dir) in
    let count = ap count_items c.self.view_is in
    let named : c.into_vec.result.items ≡ text_of c.args.looked.dir = search rules in
    rw (c.push_reserved.ensures.items, c.reserve.ensures.items, c.in-Ok.ensures.entries)
    (one_more fields.held.items fields.numbers.entries fields.items (fields.items + c.args.looked.count) c.args.looked
    c.into_vec.result c.len-number.result c.self.invariant c.requires.parts c.requires.root
    (subst N (sym c.self.view_is) c.requires.new) named (search rules) refl (omega (arith, count)))
