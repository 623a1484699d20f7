-- Names of variables.
-- After LLVM Command Guide, FileCheck, 'FileCheck String Substitution Blocks': a letter or `_`, then letters, digits
-- and `_`, with a `$` in front of a global name.
use Rattle.std.specs.Prelude.{ℕ, ◌+◌, Bool, ◌||◌, ◌==◌, List, drop, Result, Ok, Err, if◌then◌else◌}
use Rattle.std.specs.List.{prefix_len}
use Rattle.ere_tree.specs.Class.{is_alpha, is_alnum}
use Rattle.ere_tree.specs.Front.{begins, begins_with}

-- whether a byte begins a name, and whether it goes on with one
abbrev pub begins_name : ℕ → Bool
begins_name b = is_alpha b || b == 95

abbrev pub is_in_name : ℕ → Bool
is_in_name b = is_alnum b || b == 95

-- the length of the name behind so many bytes, or the offset of the byte that can't be read on
abbrev pub name_behind : ℕ → List ℕ → Result ℕ ℕ
name_behind count text =
    if begins_with begins_name (drop count text) then Ok (count + prefix_len is_in_name (drop count text))
    else Err count

-- the length of the name at the front of a text, or the offset of the byte that can't be read on
abbrev pub name_at : List ℕ → Result ℕ ℕ
name_at text = name_behind (if begins 36 text then 1 else 0) text
