-- A token more leads from one place of a reading to the next; where none is taken, the line or its refusal is told.
-- What is left to read tells of the whole text, whatever that is.
use Rattle.std.proofs.Common.{◌≡◌, ◌∙◌, ℕ, List, [], ◌∷◌, Some, Result, Ok, Err, drop, ap}
use Rattle.mini_shell.specs.Reading.{IsReadFrom, IsReading, Reads, ended, refusal, step, told_at}
use Rattle.mini_shell.specs.Fault.{Says}
use Rattle.mini_shell.specs.Token.{next_at}
use Rattle.mini_shell.specs.declared.fault.ShellFail.{ShellFail}
use Rattle.mini_shell.specs.declared.fault.ShellFail.TheVariants.{Bad, NoMemory}
use Rattle.mini_shell.specs.declared.fault.ShellFault.{ShellFault}
use Rattle.mini_shell.specs.declared.line.Line.{Line}
use Rattle.mini_shell.specs.declared.reader.Reader.{Reader}
use Rattle.mini_shell.specs.declared.token.Next.TheVariants.{Found, Over}
use Rattle.mini_shell.specs.declared.token.Token.{Token}

-- what is told of the rest is told of the text
abbrev pub Rests : List ℕ → ℕ → Reader → Type 0
Rests text at r =
    (tokens : List Token) (told : Result Line ShellFault) → IsReadFrom text at r tokens told → IsReading text told

pub one_more : (text : List ℕ) (at end : ℕ) (r next : Reader) (token : Token) → Rests text at r
    → next_at at (drop at text) ≡ Ok (Found token end) → step r token ≡ Ok next → Rests text end next
one_more text at end r next token rests is takes tokens told read = rests (token ∷ tokens) told (end, next, is, takes, read)

pub over : (text : List ℕ) (at end : ℕ) (r : Reader) (answer : Result Line ShellFail) → Rests text at r
    → next_at at (drop at text) ≡ Ok (Over end) → Says answer (ended r end) → Reads text answer
over text at end r (Ok line) rests is says = rests [] (Ok line) (ap (told_at r) is ∙ ap Some says)
over text at end r (Err (Bad fault)) rests is says = rests [] (Err fault) (ap (told_at r) is ∙ ap Some says)
over text at end r (Err NoMemory) rests is says = tt

pub refused_here : (text : List ℕ) (at : ℕ) (r : Reader) (fail : ShellFail) → Rests text at r
    → Says (Err fail) (next_at at (drop at text)) → Reads text (Err fail)
refused_here text at r (Bad fault) rests says = rests [] (Err fault) (ap (told_at r) says)
refused_here text at r NoMemory rests says = tt

pub refused_step : (text : List ℕ) (at end : ℕ) (r : Reader) (token : Token) (fail : ShellFail) → Rests text at r
    → next_at at (drop at text) ≡ Ok (Found token end) → Says (Err fail) (step r token) → Reads text (Err fail)
refused_step text at end r token (Bad fault) rests is says =
    rests [] (Err fault) (ap (told_at r) is ∙ ap refusal says)
refused_step text at end r token NoMemory rests is says = tt
