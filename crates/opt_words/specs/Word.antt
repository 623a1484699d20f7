-- One word of a command line, and the row that it means.
-- After LLVM Command Guide: an option has one dash or two, and its value stands behind `=` or is the next word.
-- Own rule: which row is meant, and that a value may follow a Glued name or a number's one letter directly.
use Rattle.std.specs.Prelude.{ℕ, Bool, true, false, ◌+◌, ◌==◌, ◌&&◌, not, nat_le, if◌then◌else◌, List, length, drop, Option, Some, None, codes}
use Rattle.std.specs.List.{before_first, position_from}
use Rattle.std.specs.Str.{bytes_eq}
use Rattle.tt_base.specs.Occurrence.{begins_with}
use Rattle.opt_words.specs.declared.row.Row.{Row}
use Rattle.opt_words.specs.declared.row.Form.{Form}
use Rattle.opt_words.specs.declared.row.Form.TheVariants.{Glued, Number}

-- whether a word is an option: it begins with `-`, and isn't `-` alone
abbrev pub is_option : List ℕ → Bool
is_option word = begins_with word (codes "-") && not (bytes_eq word (codes "-"))

-- how many dashes an option has
abbrev pub dashes : List ℕ → ℕ
dashes word = if begins_with word (codes "--") then 2 else 1

-- the name in an option: up to the first `=` behind its dashes, or to its end
abbrev pub name_in : List ℕ → List ℕ
name_in word = before_first (λ byte. byte == 61) (drop (dashes word) word)

-- whether a value may follow the name directly
abbrev pub is_glued : Form → ℕ → Bool
is_glued Glued len = true
is_glued (Number least most) len = len == 1
is_glued form len = false

-- whether all that follows the name is the value, also a `=`
abbrev pub is_all_glued : Form → Bool
is_all_glued Glued = true
is_all_glued form = false

-- whether a name is the row's
abbrev pub is_named : List ℕ → Row → Bool
is_named name row = bytes_eq row.name name

-- whether a name begins with the row's, and the rest may be a value
abbrev pub begins_named : List ℕ → Row → Bool
begins_named name row = is_glued row.form (length row.name) && begins_with name row.name

-- the index of the row that an option means: the one of its name, or else, behind one dash, the first whose name
-- its name begins with
abbrev pub meant_beside : Option ℕ → List Row → List ℕ → Option ℕ
meant_beside (Some row) rows word = Some row
meant_beside None rows word =
    if dashes word == 1 then position_from (begins_named (name_in word)) 0 rows else None

abbrev pub meant : List Row → List ℕ → Option ℕ
meant rows word = meant_beside (position_from (is_named (name_in word)) 0 rows) rows word

-- where the value in an option begins, if there is one: directly behind a name that the row's only begins, or a Glued
-- one, and else behind the `=`
abbrev pub value_behind : Bool → ℕ → List ℕ → Option ℕ
value_behind has_sign end word =
    if nat_le (length word) end then None else if has_sign then Some (end + 1) else Some end

abbrev pub own_value : Row → List ℕ → Option ℕ
own_value row word = value_behind (is_named (name_in word) row && not (is_all_glued row.form)) (dashes word + length row.name) word
