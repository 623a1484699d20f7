-- Bounds: how often an atom is repeated. After POSIX.1 XBD 9.4.6, EREs matching multiple characters.
-- RE_DUP_MAX is 255, the least that POSIX.1 allows.
use Rattle.std.specs.Prelude.{codes, ℕ, ◌+◌, ◌-◌, ◌*◌, Bool, Option, Some, None, List, [], ◌∷◌, take, drop, ◌&&◌, ◌||◌, nat_le, if◌then◌else◌}
use Rattle.std.specs.List.{prefix_len}
use Rattle.ere_tree.specs.Front.{begins_with, starts}
use Rattle.ere_tree.specs.Class.{is_digit}
use Rattle.ere_tree.specs.declared.bound.Bound.{Bound}

-- how many digits the text begins with
abbrev pub digit_count : List ℕ → ℕ
digit_count = prefix_len is_digit

-- the number that these digits spell, behind the digits of another number
unfoldable pub number_from : ℕ → List ℕ → ℕ
number_from n [] = n
number_from n (digit ∷ rest) = number_from (n * 10 + (digit - 48)) rest

-- the number that the text begins with
unfoldable pub number_at : List ℕ → ℕ
number_at text = number_from 0 (take (digit_count text) text)

-- these repetitions, where both numbers are within the limit and in order, and the bytes that their bound
-- takes
abbrev pub at_least : ℕ → ℕ → Option (Bound × ℕ)
at_least least taken =
    if nat_le least 255 then Some (record { least = least; most = None }, taken) else None

abbrev pub between : ℕ → ℕ → ℕ → Option (Bound × ℕ)
between least most taken =
    if nat_le least most && nat_le most 255 then Some
    (record { least = least; most = Some most }, taken) else None

-- the end of a bound behind `{m,`: `}` or `n}`
abbrev pub behind_comma : ℕ → ℕ → List ℕ → Option (Bound × ℕ)
behind_comma least taken text =
    if starts (codes "}") text then at_least least (taken + 1)
    else if begins_with is_digit text && starts (codes "}") (drop (digit_count text) text)
    then between least (number_at text) (taken + digit_count text + 1)
    else None

-- a bound in braces, behind its `{`: `m}`, `m,}` or `m,n}`
unfoldable pub braced : List ℕ → Option (Bound × ℕ)
braced text =
    let least = number_at text in
    let count = digit_count text in
    let behind = drop count text in
    if starts (codes "}") behind then between least least (count + 2)
    else if starts (codes ",") behind then behind_comma least (count + 2) (drop 1 behind)
    else None

-- whether a bound begins here, good or bad: `*`, `+`, `?`, or a `{` with a digit behind it
unfoldable pub begins_bound : List ℕ → Bool
begins_bound text = starts (codes "*") text || starts (codes "+") text || starts (codes "?") text ||
    (starts (codes "{") text && begins_with is_digit (drop 1 text))

-- the good bound at the front of the text, where there is one, and how many bytes it takes
unfoldable pub bound_at : List ℕ → Option (Bound × ℕ)
bound_at text =
    if starts (codes "*") text then Some (record { least = 0; most = None }, 1)
    else if starts (codes "+") text then Some (record { least = 1; most = None }, 1)
    else if starts (codes "?") text then Some (record { least = 0; most = Some 1 }, 1)
    else if begins_bound text then braced (drop 1 text)
    else None
