use Rattle.std.proofs.Common.{◌≡◌, rules, sym, ap, ◌∙◌}
use Rattle.lit_paths.specs.Paths.{text_of}
use Rattle.lit_look.specs.Index.{number_at}
use Rattle.lit_look.proofs.IndexLemmas.{number_found}
use Rattle.lit_look.proofs.seen.SeenFolders.number_of.Goals as goal

pub returns : goal.returns
returns c =
    let fields = c.self.inside in
    let path : c.as_slice.result.now ≡ text_of c.args.dir.now = search rules in
    rw (← c.self.view_is) (number_found fields.held.items fields.numbers.entries fields.items c.args.dir.now
    c.copied.result c.self.invariant c.requires
    (sym (c.copied.ensures ∙ c.get.ensures.value ∙ ap (number_at fields.numbers.entries) path)))
