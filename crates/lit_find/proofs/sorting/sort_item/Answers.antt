use Rattle.lit_find.proofs.Names.{sym, ap, subst, ◌∙◌, is_part, SuiteRoot, IsFiled}
use Rattle.lit_find.proofs.FileLemmas.{filed}
use Rattle.lit_find.proofs.sorting.sort_item.Goals as goal

pub put-requires : goal.put-requires
put-requires c =
    subst (λ (root : SuiteRoot). IsFiled (record { path = c.in_ok-path-in-File.path; suite = root }))
    (sym c.in_ok-suite-in-File.ensures)
    (filed c.args.root.now c.args.dir.now c.args.item.now.name c.in_ok-path-in-File.path c.requires.inside
    (ap is_part (sym c.as_slice.ensures) ∙ sym c.is_part.ensures ∙ c.if-not-is_part.false)
    (c.in_ok-path-in-File.ensures c.args.dir.now c.requires.front))
