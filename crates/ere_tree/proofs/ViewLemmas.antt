-- What the tree of an expression is, for an expression that was made of others.
use Rattle.std.proofs.Common.{◌≡◌, ℕ, Bool, Option, List, Box, Global, map, sym, ap, ◌∙◌}
use Rattle.ere_tree.specs.Tree.{Tree, empty, plain, set, line_start, line_end, cat, alt, repeat, group, back, trees_of}
use Rattle.ere_tree.specs.View.{view, trees_in, members_of, view_step, list_step}
use Rattle.ere_tree.specs.declared.byte_set.ByteSet.{ByteSet}
use Rattle.ere_tree.specs.declared.ere.ByteRun.{ByteRun}
use Rattle.ere_tree.specs.declared.ere.Ere.{Ere}
use Rattle.ere_tree.specs.declared.ere.EreList.{EreList}
use Rattle.ere_tree.specs.declared.ere.Ere.TheOpen.{Ere-F}
use Rattle.ere_tree.specs.declared.ere.Ere.TheFolds.{fold-roll-Ere}
use Rattle.ere_tree.specs.declared.ere.Ere.TheVariants.{Empty, Plain, Set, LineStart, LineEnd, Cat, Alt, Repeat, Group, Ref, rolls-Empty, rolls-Plain, rolls-Set, rolls-LineStart, rolls-LineEnd, rolls-Cat, rolls-Alt, rolls-Repeat, rolls-Group, rolls-Ref}

pub view_Empty : view Empty ≡ empty
view_Empty = ap view (sym rolls-Empty) ∙ fold-roll-Ere Tree (List Tree) view_step list_step Ere-F.Empty

pub view_Plain : (run : ByteRun) → view (Plain run) ≡ plain run
view_Plain run =
    ap view (sym (rolls-Plain run)) ∙ fold-roll-Ere Tree (List Tree) view_step list_step (Ere-F.Plain run)

pub view_Set : (one : ByteSet) → view (Set one) ≡ set (members_of one.bits)
view_Set one = ap view (sym (rolls-Set one)) ∙ fold-roll-Ere Tree (List Tree) view_step list_step (Ere-F.Set one)

pub view_LineStart : view LineStart ≡ line_start
view_LineStart = ap view (sym rolls-LineStart) ∙ fold-roll-Ere Tree (List Tree) view_step list_step Ere-F.LineStart

pub view_LineEnd : view LineEnd ≡ line_end
view_LineEnd = ap view (sym rolls-LineEnd) ∙ fold-roll-Ere Tree (List Tree) view_step list_step Ere-F.LineEnd

pub view_Cat : (all : EreList) → view (Cat all) ≡ cat (trees_in all)
view_Cat all = ap view (sym (rolls-Cat all)) ∙ fold-roll-Ere Tree (List Tree) view_step list_step (Ere-F.Cat all)

pub view_Alt : (all : EreList) → view (Alt all) ≡ alt (trees_in all)
view_Alt all = ap view (sym (rolls-Alt all)) ∙ fold-roll-Ere Tree (List Tree) view_step list_step (Ere-F.Alt all)

pub view_Repeat : (inner : Box Ere Global) (least : ℕ) (most : Option ℕ) →
    view (Repeat inner least most) ≡ repeat (view inner.value) least most
view_Repeat inner least most =
    ap view (sym (rolls-Repeat inner least most)) ∙
    fold-roll-Ere Tree (List Tree) view_step list_step (Ere-F.Repeat inner least most)

pub view_Group : (number : ℕ) (inner : Box Ere Global) → view (Group number inner) ≡ group number (view inner.value)
view_Group number inner =
    ap view (sym (rolls-Group number inner)) ∙
    fold-roll-Ere Tree (List Tree) view_step list_step (Ere-F.Group number inner)

pub view_Ref : (number : ℕ) (fold : Bool) → view (Ref number fold) ≡ back number fold
view_Ref number fold =
    ap view (sym (rolls-Ref number fold)) ∙ fold-roll-Ere Tree (List Tree) view_step list_step (Ere-F.Ref number fold)
