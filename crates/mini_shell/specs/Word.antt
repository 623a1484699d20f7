-- A word of a shell line, and what its quotes hide.
-- After POSIX.1 XCU 2.2: a backslash hides the byte behind it, single quotes hide all between them, and in double quotes
-- a backslash hides a `"` or a `\`. Own rule: a glob that isn't hidden is refused, and so is a backquote.
use Rattle.std.specs.Prelude.{ℕ, ◌+◌, ◌==◌, ◌||◌, if◌then◌else◌, List, [], ◌∷◌, ◌++◌, Result, Ok}
use Rattle.mini_shell.specs.Class.{ends_word, has}
use Rattle.mini_shell.specs.Fault.{refused}
use Rattle.mini_shell.specs.declared.class.Class.TheVariants as class
use Rattle.mini_shell.specs.declared.fault.ShellFault.{ShellFault}
use Rattle.mini_shell.specs.declared.fault.ShellKind.TheVariants.{NoQuoteEnd, BadOperator, Glob}
use Rattle.mini_shell.specs.declared.word.Open.{Open}
use Rattle.mini_shell.specs.declared.word.Quoting.{Quoting}
use Rattle.mini_shell.specs.declared.word.Quoting.TheVariants.{Bare, Escaped, Single, Double, Slash}
use Rattle.mini_shell.specs.declared.word.Take.{Take}
use Rattle.mini_shell.specs.declared.word.Take.TheVariants.{Byte, Both, Mark, Opening}
use Rattle.mini_shell.specs.declared.word.Turn.{Turn}
use Rattle.mini_shell.specs.declared.word.Turn.TheVariants.{Ends, Refused, Goes}
use Rattle.mini_shell.specs.declared.word.Word.{Word}

-- what a byte is in a word, where it is quoted so
abbrev pub turn_of : Quoting → ℕ → Turn
turn_of Bare byte =
    if ends_word byte then Ends
    else if byte == 92 then Goes Opening Escaped
    else if byte == 39 then Goes Opening Single
    else if byte == 34 then Goes Opening Double
    else if has class.Glob byte then Refused Glob
    else if byte == 96 then Refused BadOperator
    else Goes Byte Bare
turn_of Escaped byte = Goes Byte Bare
turn_of Single byte = if byte == 39 then Goes Mark Bare else Goes Byte Single
turn_of Double byte =
    if byte == 34 then Goes Mark Bare else if byte == 92 then Goes Mark Slash else Goes Byte Double
turn_of Slash byte = if byte == 34 || byte == 92 then Goes Byte Double else Goes Both Double

-- the word behind a byte at an offset: the byte belongs to it, the byte and the backslash before it do, or it is a mark
-- that only quotes
abbrev pub taken : Open → ℕ → ℕ → Take → Quoting → Open
taken word at byte Byte quoting = record { quoting = quoting; opened = word.opened; value = word.value ++ byte ∷ [] }
taken word at byte Both quoting =
    record { quoting = quoting; opened = word.opened; value = word.value ++ 92 ∷ byte ∷ [] }
taken word at byte Mark quoting = record { quoting = quoting; opened = word.opened; value = word.value }
taken word at byte Opening quoting = record { quoting = quoting; opened = at; value = word.value }

-- the word that ends at an offset
abbrev pub word_to : ℕ → Open → Word
word_to at word = record { value = word.value; end = at }

abbrev pub ended : Quoting → Open → ℕ → Result Word ShellFault
ended Bare word at = Ok (word_to at word)
ended quoting word at = refused NoQuoteEnd word.opened

abbrev pub turned : Turn → Open → ℕ → ℕ → (Open → Result Word ShellFault) → Result Word ShellFault
turned Ends word at byte go = Ok (word_to at word)
turned (Refused kind) word at byte go = refused kind at
turned (Goes take quoting) word at byte go = go (taken word at byte take quoting)

-- the word that goes on with a text at an offset
abbrev pub word_from : Open → ℕ → List ℕ → Result Word ShellFault
word_from word at [] = ended word.quoting word at
word_from word at (byte ∷ rest) = turned (turn_of word.quoting byte) word at byte (λ next. word_from next (at + 1) rest)

-- nothing of a word
abbrev pub none_of_it : ℕ → Open
none_of_it at = record { quoting = Bare; opened = at; value = [] }

-- the word that a text at an offset begins with
abbrev pub word_at : ℕ → List ℕ → Result Word ShellFault
word_at at text = word_from (none_of_it at) at text
