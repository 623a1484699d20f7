-- Letters in both cases: how an expression is read, or changed, so that letters match in either case.
-- After LLVM Command Guide, FileCheck, --ignore-case. Own rules: the letters are those of ASCII, and a bracket gets
-- the other case of its letters before `^` takes the bytes that aren't in it.
use Rattle.std.specs.Prelude.{ℕ, Bool, List, ◌+◌, ◌-◌, ◌==◌, ◌&&◌, ◌||◌, not, if◌then◌else◌}
use Rattle.std.specs.List.{list_any}
use Rattle.ere_tree.specs.Class.{is_alpha, is_lower, is_upper}
use Rattle.ere_tree.specs.Tree.{bytes_passing}

-- a letter in its other case; any other byte is itself
abbrev pub other_case : ℕ → ℕ
other_case b = if is_upper b then b + 32 else if is_lower b then b - 32 else b

-- whether a byte is one of these
abbrev pub is_among : List ℕ → ℕ → Bool
is_among bytes b = list_any (λ one. one == b) bytes

-- these bytes, and the letters of them in their other case
unfoldable pub both_cases : List ℕ → List ℕ
both_cases bytes = bytes_passing (λ b. is_among bytes b || is_among bytes (other_case b))

-- the bytes that aren't among these, but for the newline
unfoldable pub all_others : List ℕ → List ℕ
all_others bytes = bytes_passing (λ b. not (is_among bytes b) && not (b == 10))

-- the bytes of a bracket with these members: with `fold` the members are in both cases
abbrev pub bracket_bytes : Bool → Bool → List ℕ → List ℕ
bracket_bytes fold negated members =
    let all = if fold then both_cases members else members in
    if negated then all_others all else all

-- whether a byte stands for both its cases
abbrev pub is_folded : Bool → ℕ → Bool
is_folded fold b = fold && is_alpha b
