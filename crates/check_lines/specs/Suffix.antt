-- What is spelled behind a check prefix.
-- After LLVM Command Guide, FileCheck: the suffixes of kinds, and the modifier {LITERAL}. Own rules: how many a COUNT may ask for, and which misspellings are refused; any other text is no directive.
use Rattle.std.specs.Prelude.{◌≤◌, ⊤, ℕ, ◌+◌, ◌-◌, ◌*◌, nat_le, Bool, true, false, ◌&&◌, ◌||◌, not, if◌then◌else◌, List, take, drop, length, fold, codes, Option, None, Some}
use Rattle.std.specs.List.{prefix_len, suffix_len}
use Rattle.std.specs.Str.{bytes_eq}
use Rattle.tt_base.specs.Occurrence.{begins_with}
use Rattle.check_lines.specs.Class.{has}
use Rattle.check_lines.specs.declared.class.Class.TheVariants.{Blank, Digit, Modifier}
use Rattle.check_lines.specs.Kind.{is_not, is_other, named, suffix_of}
use Rattle.check_lines.specs.declared.kind.Kind.{Kind}
use Rattle.check_lines.specs.declared.kind.Kind.TheVariants.{Plain, Count}
use Rattle.check_lines.specs.declared.fault.LineFault.TheVariants.{BadCount, NotCombination, BadModifier}
use Rattle.check_lines.specs.declared.suffix.Spelling.{Spelling}
use Rattle.check_lines.specs.declared.suffix.Spelling.TheVariants.{Good, Bad}

-- ---- its modifier

-- a text without the blanks at both ends
abbrev pub trimmed : List ℕ → List ℕ
trimmed text =
    let rest = drop (prefix_len (has Blank) text) text in
    take (length rest - suffix_len (has Blank) rest) rest

-- the modifier behind its `{`, of a suffix with `before` bytes before the `{`
abbrev pub modifier_in : Kind → ℕ → List ℕ → ℕ → Option Spelling
modifier_in kind before text inner =
    if not (begins_with (drop inner text) (codes "}:")) then None
    else if bytes_eq (trimmed (take inner text)) (codes "LITERAL")
    then Some (Good (record { kind = kind; literal = true; count = before + inner + 3 }))
    else Some (Bad BadModifier)

abbrev pub modifier : Kind → ℕ → List ℕ → Option Spelling
modifier kind before text = modifier_in kind before text (prefix_len (has Modifier) text)

-- what closes a suffix of a kind with `before` bytes: a colon, or a modifier and a colon
abbrev pub closed : Kind → ℕ → List ℕ → Option Spelling
closed kind before rest =
    if begins_with rest (codes ":") then Some (Good (record { kind = kind; literal = false; count = before + 1 }))
    else if begins_with rest (codes "{") then modifier kind before (drop 1 rest)
    else None

-- ---- COUNT

-- the number that digits spell
abbrev pub number_of : List ℕ → ℕ
number_of digits = fold (λ value digit. value * 10 + (digit - 48)) 0 digits

-- how often a COUNT asks for a match, if that is 1 to 100,000 times
abbrev pub amount : List ℕ → Option ℕ
amount digits =
    if nat_le 1 (number_of digits) && nat_le (number_of digits) 100000 then Some (number_of digits) else None

-- whether what stands behind the digits of a COUNT can close it
abbrev pub may_close : List ℕ → Bool
may_close rest = begins_with rest (codes ":") || begins_with rest (codes "{")

-- a COUNT with so many bytes before its end
abbrev pub counted_by : Option ℕ → ℕ → List ℕ → Option Spelling
counted_by None before rest = Some (Bad BadCount)
counted_by (Some n) before rest = if may_close rest then closed (Count n) before rest else Some (Bad BadCount)

-- a COUNT behind its `-COUNT-`
abbrev pub counted : List ℕ → Option Spelling
counted text =
    let digits = prefix_len (has Digit) text in
    counted_by (amount (take digits text)) (7 + digits) (drop digits text)

-- ---- two kinds

-- a kind and another behind it, and a colon
abbrev pub combined : Kind → Option Kind → List ℕ → Option Spelling
combined first None rest = None
combined first (Some second) rest =
    if ((is_not first && is_other second) || (is_other first && is_not second))
    && begins_with (drop (length (suffix_of second)) rest) (codes ":")
    then Some (Bad NotCombination)
    else None

-- what closes a kind, or else makes it the first of two
abbrev pub closed_or_combined : Kind → List ℕ → Option Spelling → Option Spelling
closed_or_combined kind rest (Some spelling) = Some spelling
closed_or_combined kind rest None = combined kind (named rest) rest

abbrev pub named_suffix : Option Kind → List ℕ → Option Spelling
named_suffix None text = closed Plain 0 text
named_suffix (Some kind) text =
    let rest = drop (length (suffix_of kind)) text in
    closed_or_combined kind rest (closed kind (length (suffix_of kind)) rest)

-- ---- the whole

-- what is spelled behind a check prefix, if anything is
abbrev pub suffix : List ℕ → Option Spelling
suffix text =
    if begins_with text (codes "-COUNT-") then counted (drop 7 text) else named_suffix (named text) text

-- a good suffix has no more bytes than its text
abbrev pub LiesWithin : ℕ → Option Spelling → Type 0
LiesWithin most None = ⊤
LiesWithin most (Some (Good spelled)) = spelled.count ≤ most
LiesWithin most (Some (Bad kind)) = ⊤
