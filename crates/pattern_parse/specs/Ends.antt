-- How long plain text, a regular expression and a block go on, as values.
use Rattle.std.specs.Prelude.{ℕ, zero, suc, Bool, true, false, ◌==◌, if◌then◌else◌, List, [], ◌∷◌, Option, Some, None}
use Rattle.pattern_parse.specs.Cut.{front_at, starts_twice}
use Rattle.pattern_parse.specs.declared.cutting.Front.{Front}
use Rattle.pattern_parse.specs.declared.cutting.Front.TheVariants.{End, Regex, Block, Text}

abbrev pub one_more : Option ℕ → Option ℕ
one_more None = None
one_more (Some n) = Some (suc n)

abbrev pub is_text : Front → Bool
is_text Text = true
is_text End = false
is_text Regex = false
is_text Block = false

-- how many bytes of plain text there are
abbrev pub run_of : List ℕ → ℕ
run_of [] = 0
run_of (b ∷ rest) = if is_text (front_at (b ∷ rest)) then suc (run_of rest) else 0

-- how many bytes there are before the first `}}`
abbrev pub up_to_end : List ℕ → Option ℕ
up_to_end [] = None
up_to_end (b ∷ rest) = if starts_twice 125 (b ∷ rest) then Some 0 else one_more (up_to_end rest)

-- a `]` where so many brackets are open: it closes one, or is the end where another follows
abbrev pub closed : ℕ → List ℕ → (ℕ → Option ℕ) → Option ℕ
closed zero body go = if starts_twice 93 body then Some 0 else None
closed (suc depth) body go = go depth

-- how many bytes there are before the `]]` of a block, where so many brackets are open, and a backslash may hide the
-- first byte
abbrev pub end_of : ℕ → Bool → List ℕ → Option ℕ
end_of depth hidden [] = None
end_of depth true (b ∷ rest) = one_more (end_of depth false rest)
end_of depth false (b ∷ rest) =
    if b == 92 then one_more (end_of depth true rest)
    else if b == 91 then one_more (end_of (suc depth) false rest)
    else if b == 93 then closed depth (b ∷ rest) (λ d. one_more (end_of d false rest))
    else one_more (end_of depth false rest)

-- how many brackets are open behind a byte, and whether the next byte is hidden; nothing at a `]` that closes none
abbrev pub behind_close : ℕ → Option (ℕ × Bool)
behind_close zero = None
behind_close (suc depth) = Some (depth, false)

abbrev pub behind_byte : ℕ → Bool → ℕ → Option (ℕ × Bool)
behind_byte depth true b = Some (depth, false)
behind_byte depth false b =
    if b == 92 then Some (depth, true)
    else if b == 91 then Some (suc depth, false)
    else if b == 93 then behind_close depth
    else Some (depth, false)
