use Rattle.std.proofs.Common.{IfSome, rules, sym, subst}
use Rattle.lit_dirs.specs.Looks.{Shows}
use Rattle.lit_look.proofs.SeenLemmas.{listing_shows}
use Rattle.lit_look.proofs.looking.look_through.Goals as goal

pub enter-requires-clause-shows : goal.enter-requires-clause-shows
enter-requires-clause-shows g c =
    subst (λ items. IfSome (g.T.Tree.nodes c.list_dir.new.tree) (λ nodes. Shows nodes c.args.dir.now items))
    (sym c.as_slice.ensures)
    (listing_shows (g.T.Tree.nodes c.list_dir.new.tree) c.args.dir.now c.in-Ok-Some.items c.requires.parts (search rules))
