use Rattle.std.proofs.Common.{IfSome, rules, sym, subst}
use Rattle.lit_dirs.specs.Looks.{Shows}
use Rattle.lit_look.proofs.looking.look.Goals as goal

pub enter-requires-clause-shows : goal.enter-requires-clause-shows
enter-requires-clause-shows g c =
    subst (λ items. IfSome (g.T.Tree.nodes c.count_dir.new.tree) (λ nodes. Shows nodes c.args.dir.now items))
    (sym c.as_slice.ensures) (search rules)
