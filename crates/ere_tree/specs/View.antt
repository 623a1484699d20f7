-- The tree that a value of the type `Ere` stands for.
use Rattle.std.specs.Prelude.{ℕ, Bool, List, ◌/◌, ◌%◌, ◌==◌, slice_index}
use Rattle.std.specs.Int.{bit_at}
use Rattle.ere_tree.specs.Tree.{Tree, Trees, empty, plain, set, line_start, line_end, cat, alt, repeat, group, back, trees_of, bytes_passing}
use Rattle.ere_tree.specs.declared.ere.Ere.{Ere}
use Rattle.ere_tree.specs.declared.ere.Ere.TheOpen.{Ere-F, EreList-F}
use Rattle.ere_tree.specs.declared.ere.Ere.TheFolds.{fold-Ere, fold-EreList}
use Rattle.ere_tree.specs.declared.ere.EreList.{EreList}

-- whether a byte is in the set of these four words: bit `byte % 64` of word `byte / 64` tells
abbrev pub has_bit : List ℕ → ℕ → Bool
has_bit bits byte = bit_at (slice_index bits (byte / 64)) (byte % 64) == 1

-- the bytes of the set of these four words, in order
abbrev pub members_of : List ℕ → List ℕ
members_of bits = bytes_passing (has_bit bits)

-- one level, with what is inside already seen
abbrev pub view_step : Ere-F Tree (List Tree) → Tree
view_step Ere-F.Empty = empty
view_step (Ere-F.Plain run) = plain run
view_step (Ere-F.Set one) = set (members_of one.bits)
view_step Ere-F.LineStart = line_start
view_step Ere-F.LineEnd = line_end
view_step (Ere-F.Cat all) = cat (trees_of all)
view_step (Ere-F.Alt all) = alt (trees_of all)
view_step (Ere-F.Repeat inner least most) = repeat inner.value least most
view_step (Ere-F.Group number inner) = group number inner.value
view_step (Ere-F.Ref number fold) = back number fold

abbrev pub list_step : EreList-F Tree (List Tree) → List Tree
list_step all = all.held.items

-- the tree of an expression
abbrev pub view : Ere → Tree
view = fold-Ere Tree (List Tree) view_step list_step

-- the trees of a list of expressions
abbrev pub trees_in : EreList → Trees
trees_in all = trees_of (fold-EreList Tree (List Tree) view_step list_step all)
