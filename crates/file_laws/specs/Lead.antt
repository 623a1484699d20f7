-- What may stand before a directive that is made.
-- Own rule: no letter, digit, `-` or `_`, so that no prefix begins in a lead and none stands behind a word; and no end of a line.
use Rattle.std.specs.Prelude.{ℕ, Bool, ◌==◌, ◌||◌, List}
use Rattle.std.specs.List.{list_any}
use Rattle.check_lines.specs.Decision.{is_word}

-- whether a lead may not have a byte
abbrev pub is_barred : ℕ → Bool
is_barred byte = is_word byte || byte == 10 || byte == 13

abbrev pub is_bad : List ℕ → Bool
is_bad lead = list_any is_barred lead
