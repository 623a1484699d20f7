-- Words and operators of a shell line.
-- After POSIX.1 XCU 2.3 and 2.7, and LLVM Testing Infrastructure Guide. Own rules: which operators there are, and that all
-- bytes `|`, `&`, `<` and `>` in a row are one.
use Rattle.std.specs.Prelude.{codes, ℕ, ◌+◌, ◌==◌, ◌&&◌, ◌≤◌, ◌<◌, Bool, true, false, if◌then◌else◌, List, [], ◌∷◌, take, drop, Option, Some, None, Result, Ok, Err}
use Rattle.std.specs.Option.{option_map}
use Rattle.std.specs.Str.{bytes_eq}
use Rattle.mini_shell.specs.Class.{begins, front}
use Rattle.mini_shell.specs.Fault.{refused}
use Rattle.mini_shell.specs.Word as word
use Rattle.mini_shell.specs.declared.class.Class.TheVariants as class
use Rattle.mini_shell.specs.declared.fault.ShellFault.{ShellFault}
use Rattle.mini_shell.specs.declared.fault.ShellKind.TheVariants.{BadOperator}
use Rattle.mini_shell.specs.declared.line.Join.TheVariants as join
use Rattle.mini_shell.specs.declared.line.RedirForm.{RedirForm}
use Rattle.mini_shell.specs.declared.line.RedirForm.TheVariants as form
use Rattle.mini_shell.specs.declared.token.Next.{Next}
use Rattle.mini_shell.specs.declared.token.Next.TheVariants.{Found, Over}
use Rattle.mini_shell.specs.declared.token.TokenKind.{TokenKind}
use Rattle.mini_shell.specs.declared.token.TokenKind.TheVariants as kind
use Rattle.mini_shell.specs.declared.word.Word.{Word}

-- the redirections as they are written, with the numbers of streams
abbrev pub redirections : List (List ℕ × RedirForm)
redirections =
    (codes "<", form.Input) ∷ (codes "0<", form.Input)
    ∷ (codes ">", form.Out) ∷ (codes "1>", form.Out)
    ∷ (codes ">>", form.OutAppend) ∷ (codes "1>>", form.OutAppend)
    ∷ (codes "2>", form.Err) ∷ (codes "2>>", form.ErrAppend)
    ∷ (codes "&>", form.Both) ∷ (codes ">&", form.Both)
    ∷ (codes "2>&1", form.ErrToOut)
    ∷ (codes ">&2", form.OutToErr) ∷ (codes "1>&2", form.OutToErr)
    ∷ []

-- the form that is written so in a table
abbrev pub form_in : List (List ℕ × RedirForm) → List ℕ → Option RedirForm
form_in [] text = None
form_in (row ∷ rows) text = if bytes_eq text row.0 then Some row.1 else form_in rows text

-- the redirection that is written so
abbrev pub form_of : List ℕ → Option RedirForm
form_of text = form_in redirections text

-- the operator that is written so
abbrev pub operator_of : List ℕ → Option TokenKind
operator_of text =
    if bytes_eq text (codes "|") then Some kind.Pipes
    else if bytes_eq text (codes "&&") then Some (kind.Joins join.And)
    else if bytes_eq text (codes "||") then Some (kind.Joins join.Or)
    else option_map kind.Redirects (form_of text)

-- how many digits are a stream's number: those directly before `<` or `>`
abbrev pub number_count : List ℕ → ℕ
number_count text = if begins class.Arrow (drop (front class.Digit text) text) then front class.Digit text else 0

-- how many bytes behind `>&` belong to it: a word that begins with a digit
abbrev pub stream_count : List ℕ → List ℕ → ℕ
stream_count signs behind =
    if bytes_eq signs (codes ">&") && begins class.Digit behind then front class.Inner behind else 0

-- how many bytes an operator has without the number before it, and with it
abbrev pub signs_count : List ℕ → ℕ
signs_count text =
    front class.Sign text + stream_count (take (front class.Sign text) text) (drop (front class.Sign text) text)

abbrev pub operator_count : List ℕ → ℕ
operator_count text = number_count text + signs_count (drop (number_count text) text)

abbrev pub begins_operator : List ℕ → Bool
begins_operator text = begins class.Sign (drop (number_count text) text)

abbrev pub is_empty : List ℕ → Bool
is_empty [] = true
is_empty (byte ∷ rest) = false

-- an operator from one offset to another
abbrev pub found : ℕ → ℕ → Option TokenKind → Result Next ShellFault
found at end (Some one) = Ok (Found (record { at = at; kind = one }) end)
found at end None = refused BadOperator at

-- a word from an offset on; it is a `!` where it is one byte, and that is a `!`
abbrev pub found_word : ℕ → Bool → Result Word ShellFault → Result Next ShellFault
found_word at is_bang (Ok word) =
    Ok (Found (record { at = at; kind = kind.Word word.value (is_bang && word.end == at + 1) }) word.end)
found_word at is_bang (Err fault) = Err fault

-- the operator that a text at an offset begins with
abbrev pub operator_at : ℕ → List ℕ → Result Next ShellFault
operator_at at text = found at (at + operator_count text) (operator_of (take (operator_count text) text))

-- what stands at an offset that isn't blank
abbrev pub token_at : ℕ → List ℕ → Result Next ShellFault
token_at at text =
    if is_empty text then Ok (Over at)
    else if begins class.Then text then Ok (Found (record { at = at; kind = kind.Joins join.Then }) (at + 1))
    else if begins_operator text then operator_at at text
    else if begins class.Paren text then refused BadOperator at
    else found_word at (begins class.Bang text) (word.word_at at text)

-- what comes next in a text at an offset: a word or an operator behind blanks, or the end
abbrev pub next_at : ℕ → List ℕ → Result Next ShellFault
next_at at text = token_at (at + front class.Blank text) (drop (front class.Blank text) text)

-- what comes next ends behind an offset, and within so many bytes
abbrev pub GoesOn : ℕ → ℕ → Next → Type 0
GoesOn at size (Found token end) = (at < end) × (end ≤ size)
GoesOn at size (Over end) = Unit {0}
