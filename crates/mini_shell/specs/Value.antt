-- What a text is read as, as a value.
-- The law below ties it to the reading. Own rule: tokens are taken from the left, and each has a byte, so
-- there are at most as many as bytes.
use Rattle.std.specs.Prelude.{◌≡◌, ℕ, zero, suc, List, length, drop, Result, Ok, Err}
use Rattle.mini_shell.specs.Reading.{IsReading, ended, none_of_it, step}
use Rattle.mini_shell.specs.Token.{next_at}
use Rattle.mini_shell.specs.declared.fault.ShellFail.{ShellFail}
use Rattle.mini_shell.specs.declared.fault.ShellFail.TheVariants.{Bad, NoMemory}
use Rattle.mini_shell.specs.declared.fault.ShellFault.{ShellFault}
use Rattle.mini_shell.specs.declared.line.Line.{Line}
use Rattle.mini_shell.specs.declared.reader.Reader.{Reader}
use Rattle.mini_shell.specs.declared.token.Next.{Next}
use Rattle.mini_shell.specs.declared.token.Next.TheVariants.{Found, Over}

-- behind a token
abbrev pub by_step : Result Reader ShellFault → (Reader → Result Line ShellFault) → Result Line ShellFault
by_step (Ok next) go = go next
by_step (Err fault) go = Err fault

-- by what comes next
abbrev pub by_next : Reader → Result Next ShellFault → (ℕ → Reader → Result Line ShellFault) → Result Line ShellFault
by_next r (Ok (Over end)) go = ended r end
by_next r (Ok (Found token end)) go = by_step (step r token) (go end)
by_next r (Err fault) go = Err fault

-- the line that a text is read as from an offset on, of which at most so many tokens are left
unfoldable pub read_in : ℕ → List ℕ → ℕ → Reader → Result Line ShellFault
read_in zero text at r = ended r at
read_in (suc left) text at r = by_next r (next_at at (drop at text)) (read_in left text)

-- The line that a text is read as, or its first refusal.
unfoldable pub line_in : List ℕ → Result Line ShellFault
line_in text = read_in (suc (length text)) text 0 none_of_it

-- Law: a text is read as this value and as nothing else.
pub record LineIsRead : Type 0 where
  pub read : (text : List ℕ) → IsReading text (line_in text)
  pub one : (text : List ℕ) (told : Result Line ShellFault) → IsReading text told → told ≡ line_in text

-- what was answered is this line or this refusal, or memory ran out
abbrev pub IsLineIn : Result Line ShellFail → Result Line ShellFault → Type 0
IsLineIn (Ok line) read = read ≡ Ok line
IsLineIn (Err (Bad fault)) read = read ≡ Err fault
IsLineIn (Err NoMemory) read = Unit {0}
