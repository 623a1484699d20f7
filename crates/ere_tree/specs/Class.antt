-- The character classes of brackets: POSIX.1 XBD 9.3.5, with the bytes that XBD 7.3.1 gives them in the POSIX locale.
use Rattle.std.specs.Prelude.{ℕ, Bool, Option, List, [], ◌∷◌, ◌==◌, ◌&&◌, ◌||◌, not, codes}
use Rattle.std.specs.Int.{is_in_range}
use Rattle.std.specs.List.{find}
use Rattle.std.specs.Option.{option_map}
use Rattle.std.specs.Str.{bytes_eq}

-- `0` to `9`
abbrev pub is_digit : ℕ → Bool
is_digit = is_in_range 48 57

-- `a` to `z`
abbrev pub is_lower : ℕ → Bool
is_lower = is_in_range 97 122

-- `A` to `Z`
abbrev pub is_upper : ℕ → Bool
is_upper = is_in_range 65 90

-- the letters
abbrev pub is_alpha : ℕ → Bool
is_alpha b = is_upper b || is_lower b

-- the digits and the letters
abbrev pub is_alnum : ℕ → Bool
is_alnum b = is_digit b || is_alpha b

-- the digits, `A` to `F` and `a` to `f`
abbrev pub is_xdigit : ℕ → Bool
is_xdigit b = is_digit b || is_in_range 65 70 b || is_in_range 97 102 b

-- tab and space
abbrev pub is_blank : ℕ → Bool
is_blank b = b == 9 || b == 32

-- tab, newline, vertical tab, form feed, carriage return and space
abbrev pub is_space : ℕ → Bool
is_space b = is_in_range 9 13 b || b == 32

-- the controls, delete among them
abbrev pub is_cntrl : ℕ → Bool
is_cntrl b = is_in_range 0 31 b || b == 127

-- what is printed, the space among it
abbrev pub is_print : ℕ → Bool
is_print = is_in_range 32 126

-- what is printed, but for the space
abbrev pub is_graph : ℕ → Bool
is_graph = is_in_range 33 126

-- what is neither a space nor a digit or letter, and printed
abbrev pub is_punct : ℕ → Bool
is_punct b = is_graph b && not (is_alnum b)

-- the classes by their names
abbrev pub classes : List (List ℕ × (ℕ → Bool))
classes =
    (codes "alnum", is_alnum) ∷
    (codes "alpha", is_alpha) ∷
    (codes "blank", is_blank) ∷
    (codes "cntrl", is_cntrl) ∷
    (codes "digit", is_digit) ∷
    (codes "graph", is_graph) ∷
    (codes "lower", is_lower) ∷
    (codes "print", is_print) ∷
    (codes "punct", is_punct) ∷
    (codes "space", is_space) ∷
    (codes "upper", is_upper) ∷
    (codes "xdigit", is_xdigit) ∷
    []

-- the test of the class of this name
abbrev pub class_of : List ℕ → Option (ℕ → Bool)
class_of name = option_map (λ row. row.1) (find (λ row. bytes_eq name row.0) classes)
