-- What stands for a line, from its front on.
-- Shown: up to the first byte that isn't written as it is a line stands for itself, and behind that byte it goes on so.
-- The hard one is `quote_step`, which adds both to a text.
use Rattle.std.proofs.Common.{◌≡◌, ℕ, zero, suc, ◌+◌, ◌*◌, ◌<◌, ◌≤◌, ◌==◌, ◌||◌, Bool, true, false, if◌then◌else◌, nat_lt, List, [], ◌∷◌, ◌++◌, None, Some, codes, length, get_or, take, drop, refl, sym, ap, ◌∙◌, arith, append_assoc, append-nil, length-append}
use Rattle.std.proofs.lemmas.Bool.Decides.{nat_tests}
use Rattle.std.proofs.lemmas.List.{at_drop_more, drop_all, length-take-le, take_all}
use Rattle.file_laws.specs.Made.{is_too_long}
use Rattle.quote_laws.specs.Quote.{body_of, quote, quote_byte}
use Rattle.make_checks.specs.Directives.{LeavesRoom}
use Rattle.make_checks.specs.Made.{is_quoted}

plain_by : (b : ℕ) (x y : Bool) → ((x || y) ≡ true → ⊥) → (if x then codes "{{\\[}}" else if y then codes "{{[{]}}" else b ∷ []) ≡ b ∷ []
plain_by b true y refuted = absurd (refuted refl)
plain_by b false true refuted = absurd (refuted refl)
plain_by b false false refuted = refl

-- up to the first byte that isn't written as it is, a line stands for itself
pub quote_front : (line : List ℕ) (at : ℕ) → at ≤ length line
    → ((k : ℕ) → k < at → is_quoted (get_or line k 0) ≡ true → ⊥)
    → quote line ≡ take at line ++ quote (drop at line)
quote_front line zero within none = refl
quote_front [] (suc at) within none = refl
quote_front (b ∷ line) (suc at) within none =
    ap (λ l. l ++ quote line) (plain_by b (b == 91) (b == 123) (none 0 (omega arith)))
    ∙ ap (λ l. b ∷ l) (quote_front line at (omega (arith, within)) (λ k low. none (suc k) (omega (arith, low))))

size_by : (b : ℕ) (x y : Bool) → length (if x then codes "{{\\[}}" else if y then codes "{{[{]}}" else b ∷ []) ≤ 7
size_by b true y = omega arith
size_by b false true = omega arith
size_by b false false = omega arith

-- at most seven bytes stand for one
pub quote_small : (line : List ℕ) → length (quote line) ≤ 7 * length line
quote_small [] = omega arith
quote_small (b ∷ line) =
    omega (arith, length-append (quote_byte b) (quote line), size_by b (b == 91) (b == 123), quote_small line)

-- a front and the byte behind it are added
pub quote_step : (text line whole : List ℕ) (at : ℕ) → at < length line
    → ((k : ℕ) → k < at → is_quoted (get_or line k 0) ≡ true → ⊥) → text ++ quote line ≡ whole
    → ((text ++ take at line) ++ quote_byte (get_or line at 0)) ++ quote (drop (at + 1) line) ≡ whole
quote_step text line whole at within none so_far =
    let byte = quote_byte (get_or line at 0) in
    let later = quote (drop (at + 1) line) in
    append_assoc (text ++ take at line) byte later ∙ append_assoc text (take at line) (byte ++ later)
    ∙ ap (λ l. text ++ (take at line ++ l)) (sym (at_drop_more quote line at 0 within))
    ∙ ap (λ l. text ++ l) (sym (quote_front line at (omega (arith, within)) none)) ∙ so_far

-- so they are as many bytes as the line
pub quote_length : (line : List ℕ) (at : ℕ) → at < length line → ((k : ℕ) → k < at → is_quoted (get_or line k 0) ≡ true → ⊥)
    → length (quote line) ≡ (at + length (quote_byte (get_or line at 0))) + length (quote (drop (at + 1) line))
quote_length line at within none =
    let byte = quote_byte (get_or line at 0) in
    let later = quote (drop (at + 1) line) in
    omega (
      arith,
      ap length (quote_step [] line (quote line) at within none refl),
      length-append (take at line ++ byte) later,
      length-append (take at line) byte,
      length-take-le at line (omega (arith, within)),
    )

-- a line of which each byte is written as it is
pub quote_none : (line : List ℕ) → ((k : ℕ) → k < length line → is_quoted (get_or line k 0) ≡ true → ⊥) → quote line ≡ line
quote_none line none =
    quote_front line (length line) (omega arith) none ∙ ap (λ l. take (length line) line ++ quote l) (drop_all (length line) line (omega arith))
    ∙ append-nil (take (length line) line) ∙ take_all (length line) line (omega arith)

-- ---- bodies

pub body_length : (line : List ℕ) → length (body_of line) ≡ 10 + length (quote line)
body_length line =
    let front : length (codes "{{^}}") ≡ 5 = refl in
    let end : length (codes "{{$}}") ≡ 5 = refl in
    omega (arith, front, end, length-append (codes "{{^}}") (quote line ++ codes "{{$}}"), length-append (quote line) (codes "{{$}}"))

no_longer : (n : ℕ) → n ≤ 65536 → nat_lt 65536 n ≡ false
no_longer n within = grind (arith, nat_tests)

longer : (n : ℕ) → 65536 < n → nat_lt 65536 n ≡ true
longer n past = grind (arith, nat_tests)

pub short_line : (line : List ℕ) → length line ≤ 9360 → is_too_long line ≡ false
short_line line short = no_longer (length (body_of line)) (omega (arith, short, quote_small line, body_length line))

pub roomy_line : (line : List ℕ) (rest : ℕ) → LeavesRoom (body_of line) 65536 (Some rest) → is_too_long line ≡ false
roomy_line line rest leaves = no_longer (length (body_of line)) leaves.0

pub long_line : (line : List ℕ) → LeavesRoom (body_of line) 65536 None → is_too_long line ≡ true
long_line line none = longer (length (body_of line)) (omega (arith, none))
