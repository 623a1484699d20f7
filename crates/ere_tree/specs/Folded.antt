-- Expressions in which letters match in either case.
-- After LLVM Command Guide, FileCheck, --ignore-case.
use Rattle.std.specs.Prelude.{ℕ, true, List, [], ◌∷◌}
use Rattle.ere_tree.specs.Case.{both_cases}
use Rattle.ere_tree.specs.Grammar.{branch_of, with_byte}
use Rattle.ere_tree.specs.Tree.{Tree, Trees, empty, plain, set, line_start, line_end, cat, alt, repeat, group, back, none, then}

-- bytes as parts: each letter is the set of its two cases, and other bytes that follow each other are one part
abbrev pub folded_parts : List ℕ → List Tree
folded_parts [] = []
folded_parts (b ∷ bytes) = with_byte true b (folded_parts bytes)

-- a run of bytes
abbrev pub folded_run : List ℕ → Tree
folded_run [] = plain []
folded_run (b ∷ bytes) = branch_of (folded_parts (b ∷ bytes))

abbrev mutual
  -- the expression with its letters in both cases
  pub folded : Tree → Tree
  folded empty = empty
  folded (plain bytes) = folded_run bytes
  folded (set bytes) = set (both_cases bytes)
  folded line_start = line_start
  folded line_end = line_end
  folded (cat ts) = cat (all_folded ts)
  folded (alt ts) = alt (all_folded ts)
  folded (repeat t least most) = repeat (folded t) least most
  folded (group number t) = group number (folded t)
  folded (back number fold) = back number true

  -- all of them
  pub all_folded : Trees → Trees
  all_folded none = none
  all_folded (then t ts) = then (folded t) (all_folded ts)
