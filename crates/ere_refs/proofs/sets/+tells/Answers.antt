use Rattle.std.proofs.Common.{◌≡◌, sym, ap, ◌∙◌, subst}
use Rattle.ere_refs.proofs.AgreeLemmas.{tells_group}
use Rattle.ere_refs.specs.Lists.{TellsAll}
use Rattle.ere_tree.proofs.ViewLemmas.{view_Group}
use Rattle.ere_tree.specs.Tree.{group}
use Rattle.ere_tree.specs.View.{view}
use Rattle.ere_refs.proofs.sets.+tells.Goals as goal

pub returns-in-Group : goal.returns-in-Group
returns-in-Group t c = λ tells.
    let inner = view c.deref.result.now in
    let n = c.in-Group.number in
    let tree : group n inner ≡ view c.args.ere.now =
    ap (λ e. group n (view e)) c.deref.ensures
    ∙ sym (ap view c.in-Group.is ∙ view_Group n c.in-Group.inner) in
    subst (λ u. TellsAll u c.args.live.now) tree (tells_group n inner c.args.live.now (c.tells.ensures tells))
