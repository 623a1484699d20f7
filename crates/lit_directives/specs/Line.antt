-- What a line of a test's script says.
-- After LLVM Command Guide, lit, and LLVM Testing Infrastructure Guide: a directive is a keyword and what is behind it. Own
-- rules: a line has one directive, a `\r` at a line's end isn't part of it, and `END.` with nothing but blanks behind it
-- stops the reading.
use Rattle.std.specs.Prelude.{ℕ, ◌+◌, ◌-◌, ◌==◌, List, length, take, drop, slice_index, Option, Some, None, if◌then◌else◌}
use Rattle.std.specs.List.{list_all, prefix_len, suffix_len}
use Rattle.ere_tree.specs.Class.{is_blank}
use Rattle.lit_directives.specs.Keyword.{mark_of, width}
use Rattle.lit_directives.specs.declared.keyword.Keyword.{Keyword}
use Rattle.lit_directives.specs.declared.keyword.Keyword.TheVariants.{Of, End}
use Rattle.lit_directives.specs.declared.keyword.Kind.{Kind}
use Rattle.lit_directives.specs.declared.keyword.Mark.{Mark}

-- what a line says: nothing, that the reading stops, or a directive and what is behind its keyword
pub data Said : Type 0 where
  nothing : Said
  stop : Said
  directive : Kind → List ℕ → Said

-- what a keyword says with what is behind it
abbrev pub said_by : Keyword → List ℕ → Said
said_by (Of kind) rest = directive kind rest
said_by End rest = if list_all is_blank rest then stop else nothing

-- what a line says with its mark
abbrev pub said_at : List ℕ → Option Mark → Said
said_at line None = nothing
said_at line (Some mark) = said_by mark.keyword (drop (mark.at + width mark.keyword) line)

-- what a line says
abbrev pub read_line : List ℕ → Said
read_line line = said_at line (mark_of line)

-- a line without a `\r` at its end
abbrev pub without_return : List ℕ → List ℕ
without_return line =
    if slice_index line (length line - 1) == 13 then take (length line - 1) line else line

-- a text without blanks at its end
abbrev pub front_kept : List ℕ → List ℕ
front_kept text = take (length text - suffix_len is_blank text) text

-- a text without blanks at its ends
abbrev pub trimmed : List ℕ → List ℕ
trimmed text = drop (prefix_len is_blank (front_kept text)) (front_kept text)
