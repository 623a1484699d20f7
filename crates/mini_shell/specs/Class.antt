-- Bytes of a shell line by what they do where nothing quotes them.
-- After POSIX.1 XCU 2.2 and 2.10: blanks and operators end a word. Own rule: a blank is a space or a tab, and `$`, `#`,
-- `[`, `{`, `}` and `~` are bytes as any other.
use Rattle.std.specs.Prelude.{ℕ, Bool, false, ◌==◌, ◌||◌, ◌&&◌, not, nat_le, List, [], ◌∷◌}
use Rattle.std.specs.List.{prefix_len}
use Rattle.mini_shell.specs.declared.class.Class.{Class}
use Rattle.mini_shell.specs.declared.class.Class.TheVariants.{Blank, Digit, Sign, Arrow, Inner, Glob, Paren, Bang, Then}

abbrev pub is_blank : ℕ → Bool
is_blank byte = byte == 32 || byte == 9

-- `<` and `>`
abbrev pub is_arrow : ℕ → Bool
is_arrow byte = byte == 60 || byte == 62

-- `|`, `&`, `<` and `>`
abbrev pub is_sign : ℕ → Bool
is_sign byte = byte == 124 || byte == 38 || is_arrow byte

-- whether a word ends in front of a byte: a blank, a `;` or a sign
abbrev pub ends_word : ℕ → Bool
ends_word byte = is_blank byte || byte == 59 || is_sign byte

-- whether a byte is of a class
abbrev pub has : Class → ℕ → Bool
has Blank byte = is_blank byte
has Digit byte = nat_le 48 byte && nat_le byte 57
has Sign byte = is_sign byte
has Arrow byte = is_arrow byte
has Inner byte = not (ends_word byte)
has Glob byte = byte == 42 || byte == 63
has Paren byte = byte == 40 || byte == 41
has Bang byte = byte == 33
has Then byte = byte == 59

-- whether a text begins with a byte of a class
abbrev pub begins : Class → List ℕ → Bool
begins class [] = false
begins class (byte ∷ rest) = has class byte

-- how many bytes of a class a text begins with
abbrev pub front : Class → List ℕ → ℕ
front class text = prefix_len (has class) text
