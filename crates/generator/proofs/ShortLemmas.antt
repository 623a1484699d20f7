-- How long the generated texts are.
use Rattle.std.proofs.Common.{ℕ, zero, suc, ◌+◌, ◌*◌, ◌<◌, ◌≤◌, ◌==◌, arith, Bool, true, false, if◌then◌else◌, List, [], ◌++◌, length, length-append}
use Rattle.std.proofs.lemmas.Fmt.{length-decimal-le}
use Rattle.std.specs.Fmt.{decimal}
use Rattle.std.specs.Prelude.{codes}
use Rattle.generator.specs.Generated.{check_line, checks_text, first_lines, input_line, input_text, newline, numbered, value_at}

numbered_short : (before : List ℕ) (number : ℕ) (behind : List ℕ) → number < 100000
    → length (numbered before number behind) ≤ length before + 5 + length behind
numbered_short before number behind low =
    let short : length ((before ++ decimal number) ++ behind) ≤ length before + 5 + length behind =
    omega (
      arith,
      length-append (before ++ decimal number) behind,
      length-append before (decimal number),
      length-decimal-le 5 number (omega arith) (omega (arith, low)) (omega (arith, low)),
    )
    in short

either_short : (one : Bool) (xs ys : List ℕ) → length xs ≤ 64 → length ys ≤ 64 → length (if one then xs else ys) ≤ 64
either_short true xs ys short other = short
either_short false xs ys short other = other

check_short : (line : ℕ) → line ≤ 20000 → length (check_line line) ≤ 64
check_short line low =
    either_short (line == 1) (codes "CHECK: op 1 val [[#V:]]" ++ newline)
    (numbered (codes "CHECK-NEXT: op ") line (codes " val {{[0-9]+}}" ++ newline)) (omega arith)
    (omega (arith, numbered_short (codes "CHECK-NEXT: op ") line (codes " val {{[0-9]+}}" ++ newline) (omega (arith, low))))

input_short : (line : ℕ) → line ≤ 20000 → length (input_line line) ≤ 64
input_short line low =
    let short : length (numbered (codes "op ") line (codes " val ") ++ numbered [] (value_at line) newline) ≤ 64 =
    omega (
      arith,
      length-append (numbered (codes "op ") line (codes " val ")) (numbered [] (value_at line) newline),
      numbered_short (codes "op ") line (codes " val ") (omega (arith, low)),
      numbered_short [] (value_at line) newline (omega arith),
    )
    in short

lines_short : (line : ℕ → List ℕ) → ((n : ℕ) → n ≤ 20000 → length (line n) ≤ 64) → (n : ℕ) → n ≤ 20000
    → length (first_lines line n) ≤ n * 64
unfolding first_lines
lines_short line each zero low = omega arith
lines_short line each (suc n) low =
    omega (
      arith,
      length-append (first_lines line n) (line (n + 1)),
      each (n + 1) (omega (arith, low)),
      lines_short line each n (omega (arith, low)),
    )

pub checks_short : (lines : ℕ) → lines ≤ 20000 → length (checks_text lines) ≤ lines * 64
checks_short lines low = lines_short check_line check_short lines low

pub text_short : (lines : ℕ) → lines ≤ 20000 → length (input_text lines) ≤ lines * 64
text_short lines low = lines_short input_line input_short lines low
