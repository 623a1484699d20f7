use Rattle.std.proofs.Common.{◌+◌, ◌∙◌, ap, arith}
use Rattle.std.specs.Box.{with_value}
use Rattle.ere_tree.proofs.ShapeLemmas.{shifted_whole}
use Rattle.ere_tree.proofs.ViewLemmas.{view_Repeat, view_Group}
use Rattle.ere_tree.specs.Shape.{shifted}
use Rattle.ere_tree.specs.View.{view}
use Rattle.ere_tree.proofs.ere.+shift.Goals as goal

pub Ere::raised-returns-in-Repeat : goal.Ere::raised-returns-in-Repeat
Ere::raised-returns-in-Repeat t c =
    let inside = c.shift-in-Repeat.ensures ∙ ap (λ e. shifted c.args.by (view e)) c.deref_mut.ensures.value in
    let made = view_Repeat (with_value c.in-Repeat.inner c.shift-in-Repeat.new.self)
    c.in-Repeat.least c.in-Repeat.most in
    let before = ap view c.in-Repeat.is ∙ view_Repeat c.in-Repeat.inner c.in-Repeat.least c.in-Repeat.most in
    rw (made, before, inside)

pub Ere::raised-returns-in-Group : goal.Ere::raised-returns-in-Group
Ere::raised-returns-in-Group t c =
    let inside = c.shift-in-Group.ensures ∙ ap (λ e. shifted c.args.by (view e)) c.deref_mut-in-Group.ensures.value in
    let made = view_Group (c.in-Group.number + c.args.by) (with_value c.in-Group.inner c.shift-in-Group.new.self) in
    let before = ap view c.in-Group.is ∙ view_Group c.in-Group.number c.in-Group.inner in
    rw (made, before, inside)

pub EreList::shift-returns : goal.EreList::shift-returns
EreList::shift-returns t c = shifted_whole c.args.by c.args.self.now.held.len c.loop-one.one-index c.loop-one.one-items
    c.args.self.now.held.items (omega (arith, c.args.self.now.held.ok)) (omega arith) c.loop-one.invariant.whole
